use Rattle.std.proofs.Common.{◌≡◌, ◌∙◌, ap, sym, subst, length, map, List}
use Rattle.std.proofs.lemmas.Result.{IfOk-weaker}
use Rattle.gic_case.specs.Lists.{node_names}
use Rattle.gic_model.specs.Network.{Network}
use Rattle.gic_net.specs.Net.{standing}
use Rattle.gic_winding.specs.ElementList.{elements_of}
use Rattle.gic_cert.specs.declared.rows.NodeName.{NodeName}
use Rattle.gic_cert.specs.Passing.{HasNodes}
use Rattle.gic_cert.proofs.Placed.{read_nodes}
use Rattle.gic_cert.proofs.reader.read_cert.Goals as goal

pub returns-clause-nodes : goal.returns-clause-nodes
unfolding elements_of
returns-clause-nodes c =
    let nodes = c.in_ok-nodes.nodes.items in
    let names = node_names c.args.case.now in
    let count : length names ≡ c.args.net.now.network.nodes = sym (ap (λ (n : Network). n.nodes) c.requires) in
    IfOk-weaker c.read_named.result _ (HasNodes c.args.net.now.network.nodes (standing c.args.net.now))
    (λ cert live. subst (λ n. HasNodes n (standing c.args.net.now) cert) count
    (read_nodes c.args.case.now (standing c.args.net.now) nodes cert c.in_ok-nodes.ensures.nodes (live ∙ ap (λ (ns : List NodeName). map (λ node. node.live) ns) c.as_slice.ensures.value)))
    c.read_named.ensures.live
