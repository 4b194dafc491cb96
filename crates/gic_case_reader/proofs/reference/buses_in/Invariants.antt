use Rattle.std.proofs.Common.{◌≡◌, ◌+◌, drop, vec_len}
use Rattle.std.specs.HashMap.{get}
use Rattle.gic_case.specs.Names.{same}
use Rattle.gic_case_reader.specs.Pass.{each, bus_in}
use Rattle.gic_case_reader.proofs.Rows.{with_prefix}
use Rattle.gic_case_reader.proofs.reference.buses_in.Given as goal

-- the buses so far and those that are left are all of them
abbrev pub invariant-loop-i : goal.invariant-loop-i
invariant-loop-i l = record {
  many : vec_len l.buses ≡ l.i;
  rest : with_prefix l.buses.items (each (bus_in (get same l.substations)) (l.i + 1) (drop l.i l.rows)) ≡ each (bus_in (get same l.substations)) 1 l.rows;
}
