use Rattle.std.proofs.Common.{◌≡◌, ℕ, List, take}
use Rattle.std.specs.HashSet.{contains}
use Rattle.std.specs.List.{list_any}
use Rattle.gic_case.specs.Names.{same}
use Rattle.gic_case_reader.proofs.Repeats.{HasNoRepeat}
use Rattle.gic_case_reader.proofs.names.first_repeat.Given as goal

abbrev pub invariant-loop-i : goal.invariant-loop-i
invariant-loop-i l = record {
  seen : (q : List ℕ) → contains same l.seen q ≡ list_any (same q) (take l.i l.names);
  none : HasNoRepeat l.names l.i;
}
