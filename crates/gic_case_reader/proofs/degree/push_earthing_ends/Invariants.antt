use Rattle.std.proofs.Common.{◌≡◌, ◌++◌, drop}
use Rattle.gic_case.proofs.Earthings.{earthing_ends_from}
use Rattle.gic_case_reader.proofs.degree.push_earthing_ends.Given as goal

-- the ends so far and those that are left are all of them
abbrev pub invariant-loop-node : goal.invariant-loop-node
invariant-loop-node l = l.ends.items ++ earthing_ends_from l.node (drop l.node l.substations) ≡ l.fn.ends.items ++ earthing_ends_from 0 l.substations
