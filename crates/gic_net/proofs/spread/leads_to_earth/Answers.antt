use Rattle.std.proofs.Common.{◌≡◌, ◌<◌, false, true, length, ap, sym, ◌∙◌, refl, arith}
use Rattle.gic_model.specs.Network.{ends_at}
use Rattle.gic_model.specs.Earthing.{is_earth}
use Rattle.gic_model.specs.Sums.{Placed}
use Rattle.gic_model.specs.declared.parts.Element.{Element}
use Rattle.gic_net.specs.Net.{row_at, placed_at}
use Rattle.gic_net.proofs.Joined.{leads_at, leads_not}
use Rattle.gic_net.proofs.spread.leads_to_earth.Goals as goal

pub returns-then-is_earth : goal.returns-then-is_earth
returns-then-is_earth c =
    let net = c.args.net.now in
    let k = c.args.node.0 in
    let place = c.loop-place.place in
    let element : (placed_at net k place).1 ≡ c.element.result = ap (λ (p : Placed). p.1) c.element_at.ensures.value ∙ sym c.element.ensures.value in
    let earth : is_earth (placed_at net k place).1.to ≡ true = ap (λ (e : Element). is_earth e.to) element ∙ (sym c.is_earth.ensures ∙ c.if-is_earth.true) in
    let ends : ends_at (placed_at net k place).1 k ≡ true = ap (λ (p : Placed). ends_at p.1 k) c.element_at.ensures.value ∙ c.element_at.ensures.ends in
    let inside : place < length (row_at net k) = omega (arith, c.degree-place-end.ensures.value, c.loop-place-test.true) in
    (λ _. leads_at net k place inside earth ends, λ _. refl)

pub returns : goal.returns
returns c =
    let end = c.degree-place-end.ensures.value in
    let test = c.loop-place-test.false in
    (λ never. absurd (no_way never), λ leads. absurd (leads_not c.args.net.now c.args.node.0 (λ j h. c.loop-place.invariant j (omega arith)) leads))
  where
    no_way : false ≡ true → ⊥
    no_way e = cc
