use Rattle.std.proofs.Common.{◌≡◌, ◌<◌, ◌≤◌, length, get_or, arith, ap, sym, ◌∙◌}
use Rattle.std.proofs.lemmas.Grind.{common_steps}
use Rattle.gic_base.specs.Refusals.{settle}
use Rattle.gic_case.specs.Lists.{node_names, element_ends, degree_of}
use Rattle.gic_case_reader.proofs.Degrees.{degree_step}
use Rattle.gic_case_reader.proofs.degree.few_ends.Goals as goal

pub loop-node-preserved : goal.loop-node-preserved
loop-node-preserved c =
    let names = node_names c.args.network.now in
    let ends = element_ends c.args.network.now in
    let node = c.loop-node.node in
    let nodes : c.node_count-nodes.result ≡ length names = c.node_count-nodes.ensures in
    let below : node < c.from.result = grind (arith, common_steps) in
    let within : node < length names = grind (arith, common_steps, nodes) in
    let counted : get_or c.in_ok-counts.counts.items node 0 ≡ degree_of c.as_slice.result.now node = c.in_ok-counts.ensures.degrees node below in
    let same : degree_of c.as_slice.result.now node ≡ degree_of ends node = ap (λ es. degree_of es node) (c.as_slice.ensures.value ∙ c.in_ok-ends.ensures.ends) in
    let few : degree_of ends node ≤ 256 = grind (arith, common_steps) in
    ap (λ es. settle es (tt {0})) (sym (degree_step names ends node within few)) ∙ c.loop-node.invariant
