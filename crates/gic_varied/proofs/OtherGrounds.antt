-- Networks with other grounds: their chains to earth, their bound vectors, and their limits.
use Rattle.std.proofs.Common.{◌≡◌, ℕ, ◌+◌, ◌*◌, ◌^◌, ◌≤◌, ◌<◌, Bool, true, false, cond, ◌&&◌, ◌==◌, length, List, [], ◌∷◌, map, ℤ, pos, ◌-ℤ◌, ◌*ℤ◌, ◌≤ℤ◌, arith, refl, ap, sym, subst, ◌∙◌}
use lib.IntN.{*ℤ-zero}
use Rattle.std.specs.List.{AllByRecursion, enumerate_from, count_by}
use Rattle.std.proofs.lemmas.List.Sums.{sum_by-cons}
use Rattle.gic_fixed.specs.Rounding.{floor_div}
use Rattle.gic_fixed.proofs.Divisions.{floor_below, floor_ge}
use Rattle.gic_fixed.proofs.Integers.{linear, *ℤ-≤ℤ}
use Rattle.gic_fixed.proofs.Sums.{sum_of-≤ℤ}
use Rattle.gic_model.specs.declared.parts.End.TheVariants.{Node}
use Rattle.gic_model.specs.declared.parts.Item.{Item}
use Rattle.gic_model.specs.declared.parts.Element.{Element}
use Rattle.gic_model.specs.Bound.{row_part, IsBoundVector, IsEarthedWithin}
use Rattle.gic_model.specs.Earthing.{joins, is_earth, IsChainToEarth, IsEarthed, AreEarthed}
use Rattle.gic_model.specs.Limits.{IsWithinLimits, IsElementWithin}
use Rattle.gic_model.specs.Network.{Network, ends_at}
use Rattle.gic_model.specs.Standing.{standing_elements, is_live, IsLive, elements_at, other_end, value_at}
use Rattle.gic_model.specs.Sums.{Placed, sum_of}
use Rattle.gic_model.proofs.Members.{kept, placed}
use Rattle.gic_varied.specs.Grounds.{is_ground, regrounded, with_grounds}
use Rattle.gic_varied.specs.Ranges.{ground_range, ranges_of}
use Rattle.gic_varied.specs.Lifts.{with_least, with_most}
use Rattle.gic_varied.specs.GroundLaws.{AreLesser}
use Rattle.gic_varied.proofs.Regrounded.{placed_with, filter-map, list_any-map, sum_of-map, standing_with, live_with}
use Rattle.gic_varied.proofs.Within.{value_earth}
use Rattle.gic_varied.proofs.GroundCurrents.{factor_order}
use Rattle.gic_varied.proofs.Lowest.{ground_from}
use Rattle.gic_varied.proofs.OwnRanges.{own_in_range}

-- the same chains lead to earth
chain_with : (ohm : Element → ℕ) (ps : List Placed) (over : List ℕ) (k : ℕ) → IsChainToEarth ps k over → IsChainToEarth (map (placed_with ohm) ps) k over
chain_with ohm ps [] k leads = list_any-map (placed_with ohm) (λ p. (p.1.from.0 == k) && is_earth p.1.to) ps ∙ leads
chain_with ohm ps (next ∷ rest) k chain = (list_any-map (placed_with ohm) (λ p. joins k next p.1) ps ∙ chain.0, chain_with ohm ps rest next chain.1)

pub earthed_with : (network : Network) (stands : Item → Bool) (ohm : Element → ℕ) → AreEarthed (standing_elements network stands) → AreEarthed (standing_elements (with_grounds ohm network) stands)
earthed_with network stands ohm earthed =
    subst (λ (ps : List Placed). (k : ℕ) → IsLive ps k → IsEarthed ps k) (sym (standing_with network stands ohm)) (over (standing_elements network stands) earthed)
  where
    over : (ps : List Placed) → AreEarthed ps → (k : ℕ) → IsLive (map (placed_with ohm) ps) k → IsEarthed (map (placed_with ohm) ps) k
    over ps h k live =
        let chain = h k (sym (live_with ohm ps k) ∙ live) in
        record { live = live; over = chain.over; chain = chain_with ohm ps chain.over k chain.chain }

-- over plain numbers: a lesser divisor of a number that is not below 0
floor_order : (z : ℤ) (r m : ℕ) → 0 < r → r ≤ m → pos 0 ≤ℤ z → floor_div z (pos m) ≤ℤ floor_div z (pos r)
floor_order z r m some order above =
    let q = floor_div z (pos m) in
    let none = *ℤ-zero (pos m) in
    let not_below = floor_ge z m (pos 0) (omega arith) (omega (arith, linear)) in
    let below = floor_below z m (omega arith) in
    let fewer = factor_order r m q order not_below in
    floor_ge z r q some (omega (arith, linear))

-- what a bound vector gives over a ground is not below 0
ground_fall : (v : ℕ → ℕ) (k : ℕ) (e : Element) → is_earth e.to ≡ true → ends_at e k ≡ true → 1 ≤ v k →
    pos 0 ≤ℤ (pos (e.times * 1000000 * 2 ^ 20) *ℤ (pos (v k) -ℤ value_at (λ m. pos (v m)) (other_end k e) -ℤ pos 1))
ground_fall v k e ground ends above =
    let at_earth : value_at (λ m. pos (v m)) (other_end k e) ≡ pos 0 =
    ap (λ b. value_at (λ m. pos (v m)) (cond b e.to (Node e.from))) (ground_from k e ground ends) ∙ value_earth (λ m. pos (v m)) e.to ground in
    let fall : pos 0 ≤ℤ (pos (v k) -ℤ value_at (λ m. pos (v m)) (other_end k e) -ℤ pos 1) = omega (arith, linear) in
    let times = *ℤ-≤ℤ (e.times * 1000000 * 2 ^ 20) (pos 0) (pos (v k) -ℤ value_at (λ m. pos (v m)) (other_end k e) -ℤ pos 1) fall in
    let none = *ℤ-zero (pos (e.times * 1000000 * 2 ^ 20)) in
    omega (arith, linear)

-- one element's part of a row
part_order : (lesser greater : Element → ℕ) (v : ℕ → ℕ) (k : ℕ) (p : Placed) → ends_at p.1 k ≡ true → 1 ≤ v k → (is_ground p.1 ≡ true → (0 < lesser p.1) × (lesser p.1 ≤ greater p.1)) →
    row_part v k (placed_with greater p) ≤ℤ row_part v k (placed_with lesser p)
part_order lesser greater v k p ends above order = by (is_ground p.1) refl
  where
    by : (b : Bool) → is_ground p.1 ≡ b → row_part v k (placed_with greater p) ≤ℤ row_part v k (placed_with lesser p)
    by true ground =
        let z = pos (p.1.times * 1000000 * 2 ^ 20) *ℤ (pos (v k) -ℤ value_at (λ m. pos (v m)) (other_end k p.1) -ℤ pos 1) in
        let both = order ground in
        let most = ap (λ b. floor_div z (pos (cond b (greater p.1) p.1.micro_ohm))) ground in
        let least = ap (λ b. floor_div z (pos (cond b (lesser p.1) p.1.micro_ohm))) ground in
        let less = floor_order z (lesser p.1) (greater p.1) both.0 both.1 (ground_fall v k p.1 ground ends above) in
        omega (arith, linear)
    by false other =
        let z = pos (p.1.times * 1000000 * 2 ^ 20) *ℤ (pos (v k) -ℤ value_at (λ m. pos (v m)) (other_end k p.1) -ℤ pos 1) in
        let most = ap (λ b. floor_div z (pos (cond b (greater p.1) p.1.micro_ohm))) other in
        let least = ap (λ b. floor_div z (pos (cond b (lesser p.1) p.1.micro_ohm))) other in
        omega (arith, linear)

-- what is known of the grounds, of those that stand
standing_lesser : (network : Network) (stands : Item → Bool) (lesser greater : Element → ℕ) → AreLesser network lesser greater →
    AllByRecursion (λ p. is_ground p.1 ≡ true → (0 < lesser p.1) × (lesser p.1 ≤ greater p.1)) (standing_elements network stands)
standing_lesser network stands lesser greater h =
    kept (λ p. stands p.1.item) (λ p. is_ground p.1 ≡ true → (0 < lesser p.1) × (lesser p.1 ≤ greater p.1)) (λ p. is_ground p.1 ≡ true → (0 < lesser p.1) × (lesser p.1 ≤ greater p.1)) (λ p is order. order)
    (enumerate_from 0 network.list) (placed (λ e. is_ground e ≡ true → (0 < lesser e) × (lesser e ≤ greater e)) 0 network.list h)

pub bound_with : (network : Network) (stands : Item → Bool) (lesser greater : Element → ℕ) (v : ℕ → ℕ) → AreLesser network lesser greater →
    IsBoundVector (standing_elements (with_grounds greater network) stands) v → IsBoundVector (standing_elements (with_grounds lesser network) stands) v
bound_with network stands lesser greater v order bound =
    subst (λ (ps : List Placed). IsBoundVector ps v) (sym (standing_with network stands lesser))
    (over (standing_elements network stands) (standing_lesser network stands lesser greater order) (subst (λ (ps : List Placed). IsBoundVector ps v) (standing_with network stands greater) bound))
  where
    over : (ps : List Placed) → AllByRecursion (λ p. is_ground p.1 ≡ true → (0 < lesser p.1) × (lesser p.1 ≤ greater p.1)) ps →
        IsBoundVector (map (placed_with greater) ps) v → IsBoundVector (map (placed_with lesser) ps) v
    over ps known h = record {
      live_above_0 = λ k live. h.live_above_0 k (at_other k ∙ live);
      dead_0 = λ k dead. h.dead_0 k (at_other k ∙ dead);
      rows = λ k live. row k (h.live_above_0 k (at_other k ∙ live)) (h.rows k (at_other k ∙ live));
    }
      where
        at_other : (k : ℕ) → is_live (map (placed_with greater) ps) k ≡ is_live (map (placed_with lesser) ps) k
        at_other k = live_with greater ps k ∙ sym (live_with lesser ps k)

        sum_with : (ohm : Element → ℕ) (k : ℕ) → sum_of (row_part v k) (elements_at (map (placed_with ohm) ps) k) ≡ sum_of (λ p. row_part v k (placed_with ohm p)) (elements_at ps k)
        sum_with ohm k = ap (sum_of (row_part v k)) (filter-map (placed_with ohm) (λ p. ends_at p.1 k) ps) ∙ sum_of-map (placed_with ohm) (row_part v k) (elements_at ps k)

        row : (k : ℕ) → 1 ≤ v k → pos 0 ≤ℤ sum_of (row_part v k) (elements_at (map (placed_with greater) ps) k) → pos 0 ≤ℤ sum_of (row_part v k) (elements_at (map (placed_with lesser) ps) k)
        row k above meets =
            let each = kept (λ p. ends_at p.1 k) (λ p. is_ground p.1 ≡ true → (0 < lesser p.1) × (lesser p.1 ≤ greater p.1))
            (λ p. row_part v k (placed_with greater p) ≤ℤ row_part v k (placed_with lesser p)) (λ p ends order. part_order lesser greater v k p ends above order) ps known in
            let sum = sum_of-≤ℤ (λ p. row_part v k (placed_with greater p)) (λ p. row_part v k (placed_with lesser p)) (elements_at ps k) each in
            let one = sum_with greater k in
            let other = sum_with lesser k in
            omega (arith, linear)

pub within_with : (network : Network) (stands : Item → Bool) (lesser greater : Element → ℕ) (most : ℕ) → AreLesser network lesser greater →
    IsEarthedWithin (standing_elements (with_grounds greater network) stands) most → IsEarthedWithin (standing_elements (with_grounds lesser network) stands) most
within_with network stands lesser greater most order h =
    record { entries = h.entries; bound = bound_with network stands lesser greater h.entries order h.bound; none_above = h.none_above }

-- limits
element_with : (nodes : ℕ) (ohm : Element → ℕ) (e : Element) → 1000 ≤ ohm e → ohm e ≤ 1000000000 → IsElementWithin nodes e → IsElementWithin nodes (regrounded ohm e)
element_with nodes ohm e least most h = record {
  from_node = h.from_node;
  to_end = h.to_end;
  ends_differ = h.ends_differ;
  one_or_three = h.one_or_three;
  least_ohm = (between (is_ground e)).0;
  most_ohm = (between (is_ground e)).1;
}
  where
    between : (b : Bool) → (1000 ≤ cond b (ohm e) e.micro_ohm) × (cond b (ohm e) e.micro_ohm ≤ 1000000000)
    between true = (least, most)
    between false = (h.least_ohm, h.most_ohm)

elements_with : (nodes : ℕ) (ohm : Element → ℕ) (es : List Element) → ((e : Element) → IsElementWithin nodes e → (1000 ≤ ohm e) × (ohm e ≤ 1000000000)) →
    AllByRecursion (IsElementWithin nodes) es → AllByRecursion (IsElementWithin nodes) (map (regrounded ohm) es)
elements_with nodes ohm [] inside h = tt
elements_with nodes ohm (e ∷ es) inside h = (element_with nodes ohm e (inside e h.0).0 (inside e h.0).1 h.0, elements_with nodes ohm es inside h.1)

length_with : (ohm : Element → ℕ) (es : List Element) → length (map (regrounded ohm) es) ≡ length es
length_with ohm [] = refl
length_with ohm (e ∷ es) = let rest = length_with ohm es in cc

pub limits_by : (network : Network) (ohm : Element → ℕ) → AllByRecursion (IsElementWithin network.nodes) (map (regrounded ohm) network.list) →
    IsWithinLimits network → IsWithinLimits (with_grounds ohm network)
limits_by network ohm each h = record {
  few_nodes = h.few_nodes;
  few_elements = let same = length_with ohm network.list in let few = h.few_elements in omega arith;
  each_element = each;
  few_at_a_node = λ k below. let same = counted k network.list in let few = h.few_at_a_node k below in omega arith;
}
  where
    counted : (k : ℕ) (es : List Element) → count_by (λ e. ends_at e k) (map (regrounded ohm) es) ≡ count_by (λ e. ends_at e k) es
    counted k [] = refl
    counted k (e ∷ es) =
        sum_by-cons (λ x. cond (ends_at x k) 1 0) (regrounded ohm e) (map (regrounded ohm) es) ∙ ap (λ n. cond (ends_at e k) 1 0 + n) (counted k es) ∙
        sym (sum_by-cons (λ x. cond (ends_at x k) 1 0) e es)

limits_with : (network : Network) (ohm : Element → ℕ) → ((e : Element) → IsElementWithin network.nodes e → (1000 ≤ ohm e) × (ohm e ≤ 1000000000)) →
    IsWithinLimits network → IsWithinLimits (with_grounds ohm network)
limits_with network ohm inside h = limits_by network ohm (elements_with network.nodes ohm network.list inside h.each_element) h

-- the ends of a range of a tolerance
pub ends_inside : (percent ohm : ℕ) → 1000 ≤ ohm → ohm ≤ 1000000000 →
    ((1000 ≤ (ground_range percent ohm).least) × ((ground_range percent ohm).least ≤ 1000000000)) × ((1000 ≤ (ground_range percent ohm).most) × ((ground_range percent ohm).most ≤ 1000000000))
ends_inside percent ohm least most =
    let own = own_in_range percent ohm least most in
    let from = own.at_least in
    let to = own.at_most in
    ((omega arith, omega arith), (omega arith, omega arith))

pub ranges_within : (network : Network) (percent : Item → ℕ) → IsWithinLimits network → IsWithinLimits (with_least (ranges_of percent) network) × IsWithinLimits (with_most (ranges_of percent) network)
ranges_within network percent limits = (
  limits_with network (λ e. (ranges_of percent e).least) (λ e h. (ends_inside (percent e.item) e.micro_ohm h.least_ohm h.most_ohm).0) limits,
  limits_with network (λ e. (ranges_of percent e).most) (λ e h. (ends_inside (percent e.item) e.micro_ohm h.least_ohm h.most_ohm).1) limits,
)
