-- Networks with any grounds of their ranges: their limits, and their chains to earth.
use Rattle.std.proofs.Common.{◌≡◌, ℕ, ◌≤◌, Bool, true, false, cond, ◌&&◌, ◌==◌, List, [], ◌∷◌, map, arith, refl, sym, subst, ◌∙◌}
use Rattle.std.specs.List.{AllByRecursion, enumerate_from}
use Rattle.std.proofs.lemmas.List.Elements.{All-from_recursion}
use Rattle.gic_model.specs.declared.parts.Element.{Element}
use Rattle.gic_model.specs.declared.parts.Item.{Item}
use Rattle.gic_model.specs.Earthing.{joins, is_earth, IsChainToEarth, IsEarthed, AreEarthed}
use Rattle.gic_model.specs.Limits.{IsWithinLimits, IsElementWithin}
use Rattle.gic_model.specs.Network.{Network}
use Rattle.gic_model.specs.Standing.{standing_elements, IsLive}
use Rattle.gic_model.specs.Sums.{Placed}
use Rattle.gic_model.proofs.Members.{kept, placed}
use Rattle.gic_varied.specs.Grounds.{is_ground, regrounded, with_grounds}
use Rattle.gic_varied.specs.Ranges.{Ranges, ranges_of, IsInRange, AreInRanges}
use Rattle.gic_varied.specs.EachGround.{HasGroundsInRanges}
use Rattle.gic_varied.proofs.OtherGrounds.{ends_inside, limits_by}
use Rattle.gic_varied.proofs.Regrounded.{placed_with, list_any-map, live_with, standing_with}

pub standing_in_ranges : (network : Network) (stands : Item → Bool) (ranges : Ranges) (ohm : Element → ℕ) → HasGroundsInRanges network ranges ohm
    → AreInRanges ranges ohm (standing_elements network stands)
standing_in_ranges network stands ranges ohm h =
    let Inside : Placed → Type 0 = λ p. is_ground p.1 ≡ true → IsInRange (ranges p.1) (ohm p.1) in
    All-from_recursion Inside (standing_elements network stands)
    (kept (λ p. stands p.1.item) Inside Inside (λ p is inside. inside) (enumerate_from 0 network.list) (placed (λ e. is_ground e ≡ true → IsInRange (ranges e) (ohm e)) 0 network.list h))

-- a ground with a resistance of its range, and any other element
element_in : (nodes : ℕ) (percent : Item → ℕ) (ohm : Element → ℕ) (e : Element) → IsElementWithin nodes e → (is_ground e ≡ true → IsInRange (ranges_of percent e) (ohm e))
    → IsElementWithin nodes (regrounded ohm e)
element_in nodes percent ohm e h inside = record {
  from_node = h.from_node;
  to_end = h.to_end;
  ends_differ = h.ends_differ;
  one_or_three = h.one_or_three;
  least_ohm = (between (is_ground e) refl).0;
  most_ohm = (between (is_ground e) refl).1;
}
  where
    between : (b : Bool) → is_ground e ≡ b → (1000 ≤ cond b (ohm e) e.micro_ohm) × (cond b (ohm e) e.micro_ohm ≤ 1000000000)
    between true ground =
        let ends = ends_inside (percent e.item) e.micro_ohm h.least_ohm h.most_ohm in
        let low = ends.0.0 in
        let high = ends.1.1 in
        let from = (inside ground).at_least in
        let to = (inside ground).at_most in
        (omega arith, omega arith)
    between false other = (h.least_ohm, h.most_ohm)

elements_in : (nodes : ℕ) (percent : Item → ℕ) (ohm : Element → ℕ) (es : List Element) → AllByRecursion (IsElementWithin nodes) es
    → AllByRecursion (λ e. is_ground e ≡ true → IsInRange (ranges_of percent e) (ohm e)) es → AllByRecursion (IsElementWithin nodes) (map (regrounded ohm) es)
elements_in nodes percent ohm [] h inside = tt
elements_in nodes percent ohm (e ∷ es) h inside = (element_in nodes percent ohm e h.0 inside.0, elements_in nodes percent ohm es h.1 inside.1)

pub any_within : (network : Network) (percent : Item → ℕ) (ohm : Element → ℕ) → IsWithinLimits network → HasGroundsInRanges network (ranges_of percent) ohm → IsWithinLimits (with_grounds ohm network)
any_within network percent ohm h inside = limits_by network ohm (elements_in network.nodes percent ohm network.list h.each_element inside) h

-- the same chains lead to earth
chain_alike : (one other : Element → ℕ) (ps : List Placed) (over : List ℕ) (k : ℕ) → IsChainToEarth (map (placed_with one) ps) k over → IsChainToEarth (map (placed_with other) ps) k over
chain_alike one other ps [] k leads =
    let test : Placed → Bool = λ p. (p.1.from.0 == k) && is_earth p.1.to in
    list_any-map (placed_with other) test ps ∙ sym (list_any-map (placed_with one) test ps) ∙ leads
chain_alike one other ps (next ∷ rest) k chain =
    let test : Placed → Bool = λ p. joins k next p.1 in
    (list_any-map (placed_with other) test ps ∙ sym (list_any-map (placed_with one) test ps) ∙ chain.0, chain_alike one other ps rest next chain.1)

pub earthed_alike : (network : Network) (stands : Item → Bool) (one other : Element → ℕ) → AreEarthed (standing_elements (with_grounds one network) stands)
    → AreEarthed (standing_elements (with_grounds other network) stands)
earthed_alike network stands one other earthed =
    subst (λ (ps : List Placed). (k : ℕ) → IsLive ps k → IsEarthed ps k) (sym (standing_with network stands other))
    (over (standing_elements network stands) (subst (λ (ps : List Placed). (k : ℕ) → IsLive ps k → IsEarthed ps k) (standing_with network stands one) earthed))
  where
    over : (ps : List Placed) → AreEarthed (map (placed_with one) ps) → (k : ℕ) → IsLive (map (placed_with other) ps) k → IsEarthed (map (placed_with other) ps) k
    over ps h k live =
        let chain = h k (live_with one ps k ∙ sym (live_with other ps k) ∙ live) in
        record { live = live; over = chain.over; chain = chain_alike one other ps chain.over k chain.chain }
