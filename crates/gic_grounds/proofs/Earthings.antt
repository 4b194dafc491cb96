-- A case and its networks with other grounds: what stands, what is earthed, and which ranges hold what.
use Rattle.std.proofs.Common.{◌≡◌, ℕ, ◌≤◌, ◌<◌, ◌==◌, ◌&&◌, Bool, true, List, [], ◌∷◌, map, arith, sym, subst, ◌∙◌}
use Rattle.std.proofs.lemmas.List.Elements.{All-from_recursion, recursion_from_All}
use Rattle.gic_base.proofs.Each.{weaker}
use Rattle.gic_bound.specs.Entries.{IsBoundWithin}
use Rattle.gic_model.specs.declared.parts.Item.{Item}
use Rattle.gic_model.specs.declared.parts.Element.{Element}
use Rattle.gic_model.specs.Earthing.{joins, is_earth, IsChainToEarth, IsEarthed, AreEarthed}
use Rattle.gic_model.specs.Limits.{IsWithinLimits, IsElementWithin}
use Rattle.gic_model.specs.Network.{Network}
use Rattle.gic_model.specs.Standing.{standing_elements, stands_after, is_standing, IsLive}
use Rattle.gic_model.specs.Sums.{Placed}
use Rattle.gic_varied.specs.Grounds.{is_ground, with_grounds}
use Rattle.gic_varied.specs.GroundLaws.{AreLesser, BoundVectorsServeLesserGrounds}
use Rattle.gic_varied.specs.Ranges.{ranges_of, IsInRange, AreInRanges}
use Rattle.gic_net.specs.Net.{standing}
use Rattle.gic_winding.specs.ElementList.{elements_of}
use Rattle.gic_grounds.specs.declared.nets.GroundNets.{GroundNets}
use Rattle.gic_grounds.specs.Tolerances.{tolerance_at}
use Rattle.gic_grounds.specs.Tolerated.{Tolerated, AreNetsOf, ranges_in, own_in}
use Rattle.gic_varied.proofs.OtherGrounds.{earthed_with}
use Rattle.gic_varied.proofs.OwnRanges.{own_in_range, own_grounds}
use Rattle.gic_varied.proofs.Regrounded.{placed_with, list_any-map, standing_with, live_with}

-- chains to earth in a network with other grounds are chains in the network itself
chain_back : (ohm : Element → ℕ) (ps : List Placed) (over : List ℕ) (k : ℕ) → IsChainToEarth (map (placed_with ohm) ps) k over → IsChainToEarth ps k over
chain_back ohm ps [] k leads = sym (list_any-map (placed_with ohm) (λ p. (p.1.from.0 == k) && is_earth p.1.to) ps) ∙ leads
chain_back ohm ps (next ∷ rest) k chain = (sym (list_any-map (placed_with ohm) (λ p. joins k next p.1) ps) ∙ chain.0, chain_back ohm ps rest next chain.1)

-- so that is earthed where the other is
pub earthed_back : (network : Network) (stands : Item → Bool) (ohm : Element → ℕ) → AreEarthed (standing_elements (with_grounds ohm network) stands) → AreEarthed (standing_elements network stands)
earthed_back network stands ohm earthed =
    over (standing_elements network stands) (subst (λ (ps : List Placed). (k : ℕ) → IsLive ps k → IsEarthed ps k) (standing_with network stands ohm) earthed)
  where
    over : (ps : List Placed) → ((k : ℕ) → IsLive (map (placed_with ohm) ps) k → IsEarthed (map (placed_with ohm) ps) k) → (k : ℕ) → IsLive ps k → IsEarthed ps k
    over ps h k live =
        let chain = h k (live_with ohm ps k ∙ live) in
        record { live = live; over = chain.over; chain = chain_back ohm ps chain.over k chain.chain }

-- and any other network of such is earthed too
pub earthed_other : (network : Network) (stands : Item → Bool) (one other : Element → ℕ) → AreEarthed (standing_elements (with_grounds one network) stands) →
    AreEarthed (standing_elements (with_grounds other network) stands)
earthed_other network stands one other earthed = earthed_with network stands other (earthed_back network stands one earthed)

-- the same places stand
pub stands_with : (network : Network) (stands : Item → Bool) (ohm : Element → ℕ) (place : ℕ) →
    is_standing (standing_elements (with_grounds ohm network) stands) place ≡ is_standing (standing_elements network stands) place
stands_with network stands ohm place =
    subst (λ (ps : List Placed). is_standing ps place ≡ is_standing (standing_elements network stands) place) (sym (standing_with network stands ohm))
    (list_any-map (placed_with ohm) (λ p. p.0 == place) (standing_elements network stands))

-- the least resistances of tolerances are no greater than the greatest
pub lesser : (network : Network) (percent : Item → ℕ) → IsWithinLimits network → AreLesser network (λ e. (ranges_of percent e).least) (λ e. (ranges_of percent e).most)
lesser network percent limits =
    weaker (IsElementWithin network.nodes) (λ e. is_ground e ≡ true → (0 < (ranges_of percent e).least) × ((ranges_of percent e).least ≤ (ranges_of percent e).most))
    (λ e h ground.
    let own = own_in_range (percent e.item) e.micro_ohm h.least_ohm h.most_ohm in
    let above = own.above_0 in
    let least = own.at_least in
    let most = own.at_most in
    (above, omega arith)) network.list limits.each_element

-- and lie in the ranges
pub least_in_range : (network : Network) (stands : Item → Bool) (percent : Item → ℕ) → IsWithinLimits network →
    AreInRanges (ranges_of percent) (λ e. (ranges_of percent e).least) (standing_elements network stands)
least_in_range network stands percent limits =
    All-from_recursion (λ p. is_ground p.1 ≡ true → IsInRange (ranges_of percent p.1) (ranges_of percent p.1).least) (standing_elements network stands)
    (weaker (λ p. is_ground p.1 ≡ true → IsInRange (ranges_of percent p.1) p.1.micro_ohm) (λ p. is_ground p.1 ≡ true → IsInRange (ranges_of percent p.1) (ranges_of percent p.1).least)
    (λ p own ground.
    let least = (own ground).at_least in
    let most = (own ground).at_most in
    record { above_0 = (own ground).above_0; at_least = omega arith; at_most = omega arith }) (standing_elements network stands)
    (recursion_from_All (λ p. is_ground p.1 ≡ true → IsInRange (ranges_of percent p.1) p.1.micro_ohm) (standing_elements network stands) (own_grounds network stands percent limits)))

-- of the nets of a case
module _ (v : Tolerated) (nets : GroundNets) (of_nets : AreNetsOf v nets) where
  -- a bound vector of that with the greatest grounds is one of that with the least
  pub least_bound : BoundVectorsServeLesserGrounds → IsWithinLimits (elements_of v.case) → (m : ℕ) (entries : ℕ → ℕ) → IsBoundWithin (standing nets.most) m entries → IsBoundWithin (standing nets.least) m entries
  least_bound law limits m entries h =
      let most = subst (λ (ps : List Placed). IsBoundWithin ps m entries) of_nets.extremes.most_standing h in
      let vector = law (elements_of v.case) (stands_after v.rows) (λ e. (ranges_in v e).least) (λ e. (ranges_in v e).most) entries (lesser (elements_of v.case) (tolerance_at v.case v.percent) limits) most.bound in
      subst (λ (ps : List Placed). IsBoundWithin ps m entries) (sym of_nets.extremes.least_standing) (record { bound = vector; none_above = most.none_above })

  -- it is earthed where that is
  pub least_earthed : AreEarthed (standing nets.most) → AreEarthed (standing nets.least)
  least_earthed h = subst AreEarthed (sym of_nets.extremes.least_standing) (earthed_other (elements_of v.case) (stands_after v.rows) (λ e. (ranges_in v e).most) (λ e. (ranges_in v e).least) (subst AreEarthed of_nets.extremes.most_standing h))

  -- and the case itself is earthed where that is
  pub own_earthed : AreEarthed (standing nets.most) → AreEarthed (own_in v)
  own_earthed h = earthed_back (elements_of v.case) (stands_after v.rows) (λ e. (ranges_in v e).most) (subst AreEarthed of_nets.extremes.most_standing h)
