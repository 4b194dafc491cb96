use Rattle.std.proofs.Common.{List, ◌∙◌, arith, subst, map, ap, sym}
use Rattle.gic_model.specs.declared.parts.Element.{Element}
use Rattle.gic_net.specs.Conductor.{conductor_of}
use Rattle.gic_net.specs.ItemIndex.{IsItemIndex}
use Rattle.gic_net.specs.Rows.{AreFullRows}
use Rattle.gic_net.proofs.Stored.{stored_built, net_is}
use Rattle.gic_net.proofs.net.Net.build.Goals as goal

pub invariant_of-result : goal.invariant_of-result
invariant_of-result c =
    let first = c.in_ok-index.index.first.items in
    let next = c.in_ok-index.index.next.items in
    let rows = c.in_ok-rows.rows.items in (
      stored_built c.args.elements.now c.in_ok-opened.opened.items first next rows c.in_ok-list.list.items c.nodes-nodes.result c.len.result c.nodes-nodes.ensures.limits c.nodes-nodes.ensures.value
          (c.in_ok-list.ensures ∙ c.list.ensures.value)
          (subst (λ (l : List Element). IsItemIndex l first next) c.as_slice-2.ensures.value c.in_ok-index.ensures)
          (omega (arith, c.len.ensures))
          c.in_ok-opened.ensures
          (subst (λ (l : List Element). AreFullRows c.nodes-nodes.result l rows) c.as_slice.ensures.value c.in_ok-rows.ensures),
      c.in_ok-conductors.ensures ∙ ap (map conductor_of) (sym (c.in_ok-list.ensures ∙ c.list.ensures.value)),
    )

pub returns : goal.returns
returns c =
    net_is c.args.elements.now c.in_ok-opened.opened.items c.in_ok-list.list.items c.nodes-nodes.result c.len.result c.nodes-nodes.ensures.value (c.in_ok-list.ensures ∙ c.list.ensures.value) c.in_ok-opened.ensures
