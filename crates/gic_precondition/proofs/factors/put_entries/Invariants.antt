use Rattle.std.proofs.Common.{ℕ, ◌≤◌, length}
use Rattle.gic_precondition.specs.Inside.{AreNeighboursInside, AreEntriesInside}
use Rattle.gic_precondition.proofs.factors.put_entries.Given as goal

abbrev pub invariant-loop-neighbour : goal.invariant-loop-neighbour
invariant-loop-neighbour l = record {
  space : l.end ≤ length l.entries;
  inside : (nodes : ℕ) → AreNeighboursInside nodes l.neighbours → AreEntriesInside nodes l.fn.entries → AreEntriesInside nodes l.entries;
}
