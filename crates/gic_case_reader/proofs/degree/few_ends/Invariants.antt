use Rattle.std.proofs.Common.{◌≡◌, drop}
use Rattle.gic_base.specs.Refusals.{settle}
use Rattle.gic_case.specs.Lists.{node_names, element_ends}
use Rattle.gic_case_reader.specs.OneByOne.{breaks_degree_from}
use Rattle.gic_case_reader.proofs.degree.few_ends.Given as goal

-- the nodes that are left decide
abbrev pub invariant-loop-node : goal.invariant-loop-node
invariant-loop-node l = settle (breaks_degree_from l.node (drop l.node (node_names l.network)) (element_ends l.network)) (tt {0}) ≡ settle (breaks_degree_from 0 (node_names l.network) (element_ends l.network)) (tt {0})
