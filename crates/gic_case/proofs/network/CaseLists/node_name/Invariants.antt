use Rattle.std.proofs.Common.{◌≡◌, ◌-◌, slice_get}
use Rattle.gic_case.specs.Lists.{node_names}
use Rattle.gic_case.specs.NodeNames.{names_left}
use Rattle.gic_case.proofs.network.CaseLists.node_name.Given as goal

-- the node's name stands as far behind the names that were passed as are still to be passed
abbrev pub invariant-loop-passed : goal.invariant-loop-passed
invariant-loop-passed l = slice_get (names_left l.names) (l.fn.node.0 - l.passed) ≡ slice_get (node_names l.self) l.fn.node.0
