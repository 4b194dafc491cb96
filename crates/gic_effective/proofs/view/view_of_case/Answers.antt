use Rattle.std.proofs.Common.{◌≡◌, length, ap, ◌∙◌}
use Rattle.std.proofs.lemmas.List.{length-replicate}
use Rattle.gic_model.specs.Network.{Network}
use Rattle.gic_view.specs.View.{View}
use Rattle.gic_winding.specs.ElementList.{elements_of}
use Rattle.gic_winding.proofs.Limits.{nodes_named}
use Rattle.gic_effective.proofs.view.view_of_case.Goals as goal

pub returns-clause-lengths : goal.returns-clause-lengths
returns-clause-lengths c = record {
  nodes =
      ap (λ (v : View). length v.nodes) c.in_ok-view.ensures ∙ length-replicate _ _ ∙ c.nodes.ensures.value
      ∙ ap (λ (n : Network). n.nodes) c.requires ∙ nodes_named c.args.case.now;
  elements = ap (λ (v : View). length v.elements) c.in_ok-view.ensures ∙ length-replicate _ _ ∙ c.count.ensures.value ∙ ap (λ (n : Network). length n.list) c.requires;
  transformers = ap (λ (v : View). length v.effective) c.in_ok-view.ensures ∙ length-replicate _ _ ∙ ap length c.transformers.ensures.value;
}

pub returns-clause-blank : goal.returns-clause-blank
returns-clause-blank c =
    let nodes : c.nodes.result ≡ (elements_of c.args.case.now).nodes = c.nodes.ensures.value ∙ ap (λ (n : Network). n.nodes) c.requires in
    let count : c.count.result ≡ length (elements_of c.args.case.now).list = c.count.ensures.value ∙ ap (λ (n : Network). length n.list) c.requires in
    let transformers = ap length c.transformers.ensures.value in
    cc (c.in_ok-view.ensures, nodes, count, transformers)
