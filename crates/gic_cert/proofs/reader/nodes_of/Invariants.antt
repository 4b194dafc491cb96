use Rattle.std.proofs.Common.{◌≡◌, ◌+◌, ◌++◌, length, map}
use Rattle.std.specs.List.{enumerate_from}
use Rattle.gic_case.specs.Lists.{node_names}
use Rattle.gic_case.specs.NodeNames.{names_left}
use Rattle.gic_model.specs.Standing.{is_live}
use Rattle.gic_net.specs.Net.{standing}
use Rattle.gic_cert.specs.Reading.{certificate_nodes}
use Rattle.gic_cert.specs.Rows.{named_nodes}
use Rattle.gic_cert.proofs.reader.nodes_of.Given as goal

-- the nodes so far and those whose names are left are all nodes
abbrev pub invariant-loop-name : goal.invariant-loop-name
invariant-loop-name l = record {
  count : length l.nodes.items ≡ l.node;
  left : l.node + length (names_left l.name-iterator) ≡ length (node_names l.case);
  nodes : (named_nodes l.nodes.items ++ map (λ p. (p.1, is_live (standing l.net) p.0)) (enumerate_from l.node (names_left l.name-iterator))) ≡ certificate_nodes l.case (standing l.net);
}
