use Rattle.std.proofs.Common.{◌≡◌, ◌<◌, false, not, length, get_or, arith, ap, subst, sym, ◌∙◌}
use Rattle.std.proofs.lemmas.List.{get_or_default}
use Rattle.gic_model.specs.declared.parts.Element.{Element}
use Rattle.gic_model.specs.Standing.{item_number}
use Rattle.gic_net.specs.Net.{NetView, stands, element_of, no_element}
use Rattle.gic_net.proofs.OpenSet.{stands_unmarked}
use Rattle.gic_net.proofs.Places.{is_standing_at, listed}
use Rattle.gic_net.proofs.net.Net.stands.Goals as goal

value : (c : goal.After-index-2) → not c.index-2.result.now ≡ stands c.args.self.now (element_of c.args.self.now.network c.args.element.0).item
value c =
    let list = c.self.inside.list.items in
    let opened = c.self.inside.opened.items in
    let inside : c.args.element.0 < length list = subst (λ (n : NetView). c.args.element.0 < length n.network.list) (sym c.self.view_is) c.requires in
    let element = c.index.ensures ∙ get_or_default list c.args.element.0 c.index.result.now no_element inside in
    let number = c.number_of.ensures ∙ ap (λ (e : Element). item_number e.item) element in
    let marked = c.self.invariant.0.index.numbers c.args.element.0 inside in
    let within : c.number_of.result < length opened = omega (arith, number, marked, c.self.invariant.0.mark_count) in
    let mark = c.index-2.ensures ∙ get_or_default opened c.number_of.result c.index-2.result.now false within ∙ ap (λ n. get_or opened n false) number in
    subst (λ (n : NetView). not c.index-2.result.now ≡ stands n (element_of n.network c.args.element.0).item) c.self.view_is
    (ap not mark ∙ sym (stands_unmarked opened (get_or list c.args.element.0 no_element).item))

pub returns-clause-value : goal.returns-clause-value
returns-clause-value c = value c

pub returns-clause-place : goal.returns-clause-place
returns-clause-place c = value c ∙ is_standing_at c.args.self.now c.args.element.0 c.requires

pub returns-clause-listed : goal.returns-clause-listed
returns-clause-listed c = λ stand. listed c.args.self.now c.args.element.0 c.requires (sym (value c) ∙ stand)
