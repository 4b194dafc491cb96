use Rattle.std.proofs.Common.{◌≡◌, ◌++◌, ◌==◌, length, take, drop, set, arith, ap, subst, sym, ◌∙◌}
use Rattle.std.proofs.lemmas.List.{take_at, length-set}
use Rattle.gic_net.specs.Net.{NetView, switched_net}
use Rattle.std.specs.List.{list_any}
use Rattle.gic_model.specs.Standing.{item_number}
use Rattle.gic_model.specs.Network.{Network}
use Rattle.gic_net.specs.Switched.{Items}
use Rattle.gic_net.specs.Rows.{IsStored}
use Rattle.gic_net.proofs.Stored.{marked_lent, stored_lent, switched_set}
use Rattle.gic_net.proofs.net.Net.switch.Goals as goal

pub gather_item-requires-clause-marked : goal.gather_item-requires-clause-marked
gather_item-requires-clause-marked c =
    let net : Network = record { nodes = c.self.inside.nodes; list = c.self.inside.list.items } in
    let marks = ap length c.as_slice-then-has_element-2.ensures.value ∙ length-set c.self.inside.opened.items c.number_of-number.result c.args.opens ∙ c.self.invariant.0.mark_count in
    marked_lent net c.self.inside.opened.items c.as_slice-then-has_element-2.result.now c.self.inside.index.first.items c.self.inside.index.next.items c.self.inside.rows.items c.as_mut_slice.result.now
    c.as_slice-then-has_element.result.now c.self.invariant.0 marks c.as_mut_slice.ensures.value c.as_slice-then-has_element.ensures.value

pub invariant_of-self : goal.invariant_of-self
invariant_of-self c =
    let net : Network = record { nodes = c.self.inside.nodes; list = c.self.inside.list.items } in
    let now = c.gather_item.new.rows in
    let whole : take c.self.inside.rows.len (now ++ drop (length now) c.self.inside.rows.items) ≡ now =
    take_at now (drop (length now) c.self.inside.rows.items) c.self.inside.rows.len (omega (arith, c.gather_item.ensures.count, c.as_mut_slice.ensures.len)) in (
      subst (IsStored net (set c.self.inside.opened.items c.number_of-number.result c.args.opens) c.self.inside.index.first.items c.self.inside.index.next.items) (sym whole)
          (stored_lent net c.self.inside.opened.items c.as_slice-then-has_element-2.result.now c.self.inside.index.first.items c.self.inside.index.next.items c.self.inside.rows.items c.as_mut_slice.result.now now
          c.as_slice-then-has_element.result.now c.number_of-number.result c.args.opens c.self.invariant.0 c.as_mut_slice.ensures.value c.as_slice-then-has_element.ensures.value c.as_slice-then-has_element-2.ensures.value c.gather_item.ensures),
      c.self.invariant.1,
    )

pub returns-then-has_element : goal.returns-then-has_element
returns-then-has_element c =
    let net : Network = record { nodes = c.self.inside.nodes; list = c.self.inside.list.items } in
    ap (λ (s : Items). record { network = net; open_items = s })
    (switched_set net c.self.inside.opened.items c.args.item c.args.opens c.number_of-number.result c.number_of-number.ensures
    (omega (arith, c.has_element.ensures.inside c.if-has_element.true, c.self.invariant.0.mark_count))
    (ap (list_any (λ e. item_number e.item == c.number_of-number.result)) (sym c.as_slice.ensures.value) ∙ sym c.has_element.ensures.value ∙ c.if-has_element.true)) ∙
    ap (λ (n : NetView). switched_net n c.args.item c.args.opens) c.self.view_is
