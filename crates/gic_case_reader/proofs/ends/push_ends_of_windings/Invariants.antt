use Rattle.std.proofs.Common.{◌≡◌, ◌++◌, drop}
use Rattle.gic_case.specs.Lists.{winding_ends}
use Rattle.gic_case_reader.proofs.ends.push_ends_of_windings.Given as goal

-- the ends so far and those of the windings that are left are all of them
abbrev pub invariant-loop-winding : goal.invariant-loop-winding
invariant-loop-winding l = l.ends.items ++ winding_ends l.first_bus l.neutral (drop l.winding-index l.windings) ≡ l.fn.ends.items ++ winding_ends l.first_bus l.neutral l.windings
