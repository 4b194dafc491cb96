use Rattle.std.proofs.Common.{◌==◌, ◌<◌, true, false, length, arith, ap, sym, ◌∙◌}
use Rattle.std.proofs.lemmas.List.{get_or_default}
use Rattle.std.specs.List.{list_any}
use Rattle.gic_model.specs.Standing.{item_number}
use Rattle.gic_net.specs.Net.{NetView, is_switched}
use Rattle.gic_net.proofs.Already.{by_mark}
use Rattle.gic_net.proofs.net.Net.is_switched.Goals as goal

pub returns-then-index : goal.returns-then-index
returns-then-index c =
    let opened = c.self.inside.opened.items in
    let number = c.number_of-number.result in
    let within : number < length opened = omega (arith, c.has_element.ensures.inside c.if-not-has_element.false, c.self.invariant.0.mark_count) in
    sym (ap (λ (n : NetView). is_switched n c.args.item c.args.opens) (sym c.self.view_is) ∙
    by_mark (record { nodes = c.self.inside.nodes; list = c.self.inside.list.items }) opened c.args.item c.args.opens c.has_element.result c.index.result.now true number c.number_of-number.ensures
    (c.has_element.ensures.value ∙ ap (list_any (λ e. item_number e.item == number)) c.as_slice.ensures.value) c.if-not-has_element.false
    (sym (c.index.ensures ∙ get_or_default opened number c.index.result.now false within)) c.if-index.true)

pub returns-else-index : goal.returns-else-index
returns-else-index c =
    let opened = c.self.inside.opened.items in
    let number = c.number_of-number.result in
    let within : number < length opened = omega (arith, c.has_element.ensures.inside c.if-not-has_element.false, c.self.invariant.0.mark_count) in
    sym (ap (λ (n : NetView). is_switched n c.args.item c.args.opens) (sym c.self.view_is) ∙
    by_mark (record { nodes = c.self.inside.nodes; list = c.self.inside.list.items }) opened c.args.item c.args.opens c.has_element.result c.index.result.now false number c.number_of-number.ensures
    (c.has_element.ensures.value ∙ ap (list_any (λ e. item_number e.item == number)) c.as_slice.ensures.value) c.if-not-has_element.false
    (sym (c.index.ensures ∙ get_or_default opened number c.index.result.now false within)) c.if-index.false)
