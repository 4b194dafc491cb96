-- Networks with their grounds at the ends of their ranges.
use Rattle.std.proofs.Common.{◌≡◌, ℕ, ◌+◌, ◌-◌, ◌*◌, ◌<◌, ◌≤◌, ◌++◌, Bool, true, false, List, [], map, get_or, length, Option, Some, None, IfSome, sym, subst, arith, ⊎_elim}
use Rattle.std.proofs.Math.Nat.{mul-le-mul_left}
use Rattle.std.proofs.lemmas.Bool.{cases_lt}
use Rattle.std.proofs.lemmas.List.{get_or_past, get_or-map, length-map}
use Rattle.std.proofs.lemmas.List.Elements.{All-from_recursion, All-get_or}
use Rattle.std.specs.Prelude.{All, unwrap_or, if◌then◌else◌}
use Rattle.gic_case.specs.declared.item.Substation.{Substation}
use Rattle.gic_case.specs.Lists.{Lists}
use Rattle.gic_case.specs.Sound.{IsSound, IsSoundSubstation}
use Rattle.gic_model.specs.declared.parts.Element.{Element}
use Rattle.gic_model.specs.declared.parts.Item.{Item}
use Rattle.gic_model.specs.declared.parts.Item.TheVariants as item
use Rattle.gic_model.specs.Limits.{IsWithinLimits, IsElementWithin}
use Rattle.gic_model.specs.Network.{Network}
use Rattle.gic_varied.specs.GroundLaws.{RangesStayWithinLimits}
use Rattle.gic_net.specs.Net.{element_of, no_element}
use Rattle.gic_varied.proofs.OwnRanges.{own_in_range}
use Rattle.gic_varied.specs.Grounds.{is_ground, regrounded, with_grounds}
use Rattle.gic_varied.specs.Lifts.{with_least, with_most}
use Rattle.gic_varied.specs.Ranges.{ground_range, ranges_of}
use Rattle.gic_winding.specs.ElementList.{elements_of}
use Rattle.gic_grounds.specs.declared.extreme.Extreme.{Extreme}
use Rattle.gic_grounds.specs.declared.extreme.Extreme.TheVariants.{Least, Most}
use Rattle.gic_grounds.specs.Modest.{IsModest, AreModestNetworks}
use Rattle.gic_grounds.specs.Tolerances.{tolerance_in, tolerance_at, case_ranges}
use Rattle.gic_grounds.specs.Grounded.{extreme_of, extreme_network}

-- they are within the limits
pub extreme_within : (extreme : Extreme) (case : Lists) (percent : ℕ) → RangesStayWithinLimits → IsWithinLimits (elements_of case) → IsWithinLimits (extreme_network extreme case percent)
extreme_within Least case percent limits within = (limits (elements_of case) (tolerance_at case percent) within).0
extreme_within Most case percent limits within = (limits (elements_of case) (tolerance_at case percent) within).1

-- the elements that were pushed are those of such a network
pub pushed_is : (extreme : Extreme) (case : Lists) (percent : ℕ) (elements : Network) (nodes : ℕ) (list before pushed : List Element) →
    elements ≡ elements_of case → nodes ≡ elements.nodes → list ≡ elements.list → before ≡ [] →
    pushed ≡ before ++ map (regrounded (λ e. extreme_of extreme (case_ranges case percent e))) list →
    record { nodes = nodes; list = pushed } ≡ extreme_network extreme case percent
pushed_is extreme case percent elements nodes list before pushed of_case same_nodes same_list none is =
    let part = regrounded (λ e. extreme_of extreme (case_ranges case percent e)) in
    let first : nodes ≡ (elements_of case).nodes = cc (same_nodes, of_case) in
    let second : pushed ≡ map part (elements_of case).list = rw (is, none, same_list, of_case) in
    cc (first, second)

-- with a tolerance of at most 90 per cent the greatest resistance is at most 20 times the least
modest_range : (percent ohm : ℕ) → percent ≤ 90 → 1000 ≤ ohm → ohm ≤ 1000000000 → IsModest (ground_range percent ohm).least (ground_range percent ohm).most
modest_range percent ohm few least most =
    let own = own_in_range percent ohm least most in
    let low : ohm * 10 ≤ ohm * (100 - percent) = mul-le-mul_left ohm (omega (arith, few)) in
    let high : ohm * (100 + percent) ≤ ohm * 190 = mul-le-mul_left ohm (omega (arith, few)) in
    record {
      ordered = omega (arith, own.at_least, own.at_most);
      twentyfold = omega (arith, low, high, least);
    }

-- so with a choice of the one range or of the resistance itself
modest_by : (ground : Bool) (percent ohm : ℕ) → percent ≤ 90 → 1000 ≤ ohm → ohm ≤ 1000000000 →
    IsModest (if ground then (ground_range percent ohm).least else ohm) (if ground then (ground_range percent ohm).most else ohm)
modest_by true percent ohm few least most = modest_range percent ohm few least most
modest_by false percent ohm few least most = record { ordered = omega arith; twentyfold = omega arith }

-- the element of such a network
pub element_with : (ohm : Element → ℕ) (network : Network) (place : ℕ) → place < length network.list → element_of (with_grounds ohm network) place ≡ regrounded ohm (element_of network place)
element_with ohm network place inside = get_or-map (regrounded ohm) network.list place no_element no_element inside

-- so are the networks with their grounds at the ends of such ranges
pub modest_with : (network : Network) (percent : Item → ℕ) → IsWithinLimits network → ((item : Item) → percent item ≤ 90) →
    AreModestNetworks (with_least (ranges_of percent) network) (with_most (ranges_of percent) network)
modest_with network percent within few place = ⊎_elim
    (λ inside.
    let e = element_of network place in
    let sound : IsElementWithin network.nodes e = All-from_recursion (IsElementWithin network.nodes) network.list within.each_element place no_element inside in
    subst (λ (x : Element). IsModest x.micro_ohm (element_of (with_most (ranges_of percent) network) place).micro_ohm) (sym (element_with (λ e. (ranges_of percent e).least) network place inside))
    (subst (λ (x : Element). IsModest (regrounded (λ e. (ranges_of percent e).least) e).micro_ohm x.micro_ohm) (sym (element_with (λ e. (ranges_of percent e).most) network place inside))
    (modest_by (is_ground e) (percent e.item) e.micro_ohm (few e.item) sound.least_ohm sound.most_ohm)))
    (λ past.
    subst (λ (x : Element). IsModest x.micro_ohm (element_of (with_most (ranges_of percent) network) place).micro_ohm) (sym (past_end (λ e. (ranges_of percent e).least) past))
    (subst (λ (x : Element). IsModest 1000 x.micro_ohm) (sym (past_end (λ e. (ranges_of percent e).most) past)) (record { ordered = omega arith; twentyfold = omega arith })))
    (cases_lt place (length network.list))
  where
    past_end : (ohm : Element → ℕ) → length network.list ≤ place → element_of (with_grounds ohm network) place ≡ no_element
    past_end ohm past = get_or_past (map (regrounded ohm) network.list) place no_element (omega (arith, past, length-map network.list (regrounded ohm)))

-- a substation without a tolerance
no_substation : Substation
no_substation = record { name = []; ground = None; tolerance = None }

-- a tolerance in a list of substations is at most 90 per cent
pub own_few : (substations : List Substation) (percent place : ℕ) → All IsSoundSubstation substations → percent ≤ 90 → tolerance_in substations percent place ≤ 90
own_few substations percent place sound few = ⊎_elim
    (λ inside.
    subst (λ (o : Option ℕ). unwrap_or o percent ≤ 90) (sym (get_or-map (λ s. s.tolerance) substations place no_substation None inside))
    (by (get_or substations place no_substation).tolerance (All-get_or IsSoundSubstation substations place no_substation inside sound).tolerance_most))
    (λ past.
    subst (λ (o : Option ℕ). unwrap_or o percent ≤ 90)
    (sym (get_or_past (map (λ s. s.tolerance) substations) place None (omega (arith, past, length-map substations (λ s. s.tolerance))))) few)
    (cases_lt place (length substations))
  where
    by : (o : Option ℕ) → IfSome o (λ p. p ≤ 90) → unwrap_or o percent ≤ 90
    by None h = few
    by (Some p) h = h

-- so is that of each item of a case
pub few_percent : (case : Lists) (percent : ℕ) → IsSound case → percent ≤ 90 → (item : Item) → tolerance_at case percent item ≤ 90
few_percent case percent sound few (item.Ground place) = own_few case.substations percent place sound.substations_sound few
few_percent case percent sound few (item.Line place) = few
few_percent case percent sound few (item.Transformer place) = few
few_percent case percent sound few (item.Neutral place) = few

-- and its networks with the grounds at the ends of their ranges are modest
pub modest_extremes : (case : Lists) (percent : ℕ) (least most : Network) → IsSound case → IsWithinLimits (elements_of case) → percent ≤ 90 →
    least ≡ extreme_network Least case percent → most ≡ extreme_network Most case percent → AreModestNetworks least most
modest_extremes case percent least most sound within few is_least is_most =
    subst (λ n. AreModestNetworks n most) (sym is_least)
    (subst (λ n. AreModestNetworks (extreme_network Least case percent) n) (sym is_most)
    (modest_with (elements_of case) (tolerance_at case percent) within (few_percent case percent sound few)))
