use Rattle.std.proofs.Common.{ap, arith, ◌∙◌, ◌++◌}
use Rattle.std.specs.List.{flat_map}
use Rattle.gic_review.specs.LowAlpha.{low_alpha_told}
use Rattle.gic_review.specs.Outside.{outside_told}
use Rattle.gic_model.specs.Network.{Network}
use Rattle.gic_winding.specs.ElementList.{elements_of}
use Rattle.gic_winding.proofs.Limits.{nodes_named, length-node_names, within_limits}
use Rattle.gic_review.specs.PartSizes.{sizes_of}
use Rattle.gic_review.proofs.Collected.{collected}
use Rattle.gic_review.proofs.PartLaws.{sizes_right}
use Rattle.gic_review.proofs.findings.gathered.findings.Goals as goal

pub push_ungrounded-requires : goal.push_ungrounded-requires
push_ungrounded-requires c =
    let case = c.args.case.now in
    let nodes = ap (λ (n : Network). n.nodes) c.in_ok-elements.ensures in
    omega (arith, nodes, nodes_named case, length-node_names case)

pub returns : goal.returns
returns c =
    let case = c.args.case.now in
    record {
      sizes = sizes_of (elements_of case);
      of_parts = sizes_right (elements_of case) (within_limits case c.transformers.ensures.sound);
      all = collected case c.in_ok-elements.elements _ _ _ _ _ _ _ _ c.in_ok-elements.ensures c.new-findings.ensures.items c.in_ok-push_ungrounded.ensures c.in_ok-push_parts.ensures c.in_ok-push_closures.ensures
          c.in_ok-push_values.ensures (c.in_ok-push_low_alphas.ensures ∙ ap (λ zs. c.push_values.new.findings.items ++ flat_map low_alpha_told zs) c.zones.ensures.value) c.in_ok-push_levels.ensures
          (c.in_ok-push_outside.ensures ∙ ap (λ ts. c.push_levels.new.findings.items ++ flat_map outside_told ts) c.transformers.ensures.value);
    }
