-- The stray powers of the standing grounds, added up place by place.
use Rattle.std.proofs.Common.{◌≡◌, ℕ, ◌+◌, ◌*◌, ◌<◌, ◌≤◌, Bool, true, false, cond, List, ◌∷◌, length, drop, get_or, arith, refl, ap, ap₂, sym, ◌∙◌, ℤ, pos, ◌+ℤ◌, drop-cons, add-one, suc, ◌⊎◌, inl, inr, unsigned_abs, ◌^◌}
use Rattle.std.specs.List.{filter, enumerate_from}
use Rattle.std.proofs.lemmas.List.{at_drop_all}
use Rattle.std.specs.Prelude.{FitsSigned}
use Rattle.std.specs.Int.{w128}
use Rattle.std.proofs.lemmas.Int.{ints, fits_signed_from_abs}
use Rattle.gic_fixed.proofs.Integers.{linear}
use Rattle.gic_fixed.proofs.Sums.{sum_of-same}
use Rattle.gic_fixed.specs.declared.interval.Interval.{Interval}
use Rattle.gic_fixed.specs.Ends.{Ends, ends_of, zero_ends}
use Rattle.gic_enclose.specs.Ends.{potential_ends}
use Rattle.gic_model.specs.declared.parts.Element.{Element}
use Rattle.gic_model.specs.declared.parts.Item.{Item}
use Rattle.gic_model.specs.Network.{Network}
use Rattle.gic_model.specs.Standing.{standing_elements}
use Rattle.gic_model.specs.Sums.{Placed, sum_of}
use Rattle.gic_model.proofs.Members.{kept}
use Rattle.gic_net.proofs.Kept.{IsIn, each_in}
use Rattle.gic_net.specs.Net.{element_of, no_element}
use Rattle.gic_varied.proofs.Regrounded.{placed_with, filter-map, sum_of-map, standing_with}
use Rattle.gic_varied.specs.Enclosure.{stray_at, stray_ends, varied_ends, product_ends}
use Rattle.gic_varied.specs.Certified.{product_at}
use Rattle.gic_varied.specs.Corners.{Corner, corner_ohm}
use Rattle.gic_varied.specs.Grounds.{is_ground, regrounded, grounds_among}
use Rattle.gic_varied.specs.Lifts.{with_least, with_most}
use Rattle.gic_varied.specs.Ranges.{Range, Ranges}
use Rattle.gic_grounds.specs.declared.varied.VariedEnds.{VariedEnds}
use Rattle.gic_grounds.specs.declared.varied.VariedPotentials.{VariedPotentials}
use Rattle.gic_grounds.specs.VariedEnds.{ends_seen}
use Rattle.gic_grounds.specs.Varying.{intervals_of, stray_power_at}
use Rattle.gic_grounds.proofs.Extremes.{element_with}

-- the sum of f over the standing grounds from a place on
abbrev pub sum_from : (f : ℕ → ℤ) → (stands : Item → Bool) → List Element → ℕ → ℤ
sum_from f stands list place = sum_of (λ p. f p.0) (grounds_among (filter (λ p. stands p.1.item) (enumerate_from place (drop place list))))

-- one element more
one_more : (f : ℕ → ℤ) (ground stand : Bool) (place : ℕ) (e : Element) (rest : List Placed) → is_ground e ≡ ground →
    sum_of (λ p. f p.0) (grounds_among (cond stand ((place, e) ∷ rest) rest)) ≡ cond ground (cond stand (f place) (pos 0)) (pos 0) +ℤ sum_of
    (λ p. f p.0) (grounds_among rest)
one_more f true true place e rest is = ap (λ b. sum_of (λ p. f p.0) (cond b ((place, e) ∷ grounds_among rest) (grounds_among rest))) is
one_more f false true place e rest is = ap (λ b. sum_of (λ p. f p.0) (cond b ((place, e) ∷ grounds_among rest) (grounds_among rest))) is
    ∙ omega (arith, linear)
one_more f true false place e rest is = omega (arith, linear)
one_more f false false place e rest is = omega (arith, linear)

-- the sum from a place on is what the element there adds, and the sum from the next one on
pub next_stray : (f : ℕ → ℤ) (stands : Item → Bool) (list : List Element) (place : ℕ) → place < length list →
    let e = get_or list place no_element in
    sum_from f stands list place ≡ cond (is_ground e) (cond (stands e.item) (f place) (pos 0)) (pos 0) +ℤ sum_from f stands list (place + 1)
next_stray f stands list place inside =
    let e = get_or list place no_element in
    ap (λ l. sum_of (λ p. f p.0) (grounds_among (filter (λ p. stands p.1.item) (enumerate_from place l))))
    (drop-cons list place no_element inside)
    ∙ one_more f (is_ground e) (stands e.item) place e (filter (λ p. stands p.1.item) (enumerate_from (place + 1) (drop (suc place) list)))
    refl
    ∙ ap
    (λ k. cond (is_ground e) (cond (stands e.item) (f place) (pos 0)) (pos 0) +ℤ sum_of (λ p. f p.0) (grounds_among (filter (λ p. stands p.1.item) (enumerate_from (place + 1) (drop k list))))) (sym (add-one place))

-- past the last element nothing is left
pub no_stray_left : (f : ℕ → ℤ) (stands : Item → Bool) (list : List Element) (place : ℕ) → length list ≤ place →
    sum_from f stands list place ≡ pos 0
no_stray_left f stands list place past = at_drop_all
    (λ l. sum_of (λ p. f p.0) (grounds_among (filter (λ p. stands p.1.item) (enumerate_from place l)))) list place past

-- a ground with its resistances in the two networks has its range there, and of that the end at which it is
ranged : (end : Ends → ℤ) (unit : ℕ) (products : Placed → Ends) (ground marked : Bool) → ground ≡ true →
    (range : Range) (place ohm : ℕ) (e : Element) →
    end (stray_ends (record { least = cond ground range.least ohm; most = cond ground range.most ohm }) e.times (cond marked (cond ground range.most ohm) (cond ground range.least ohm)) unit (products (place, e)))
    ≡ end (stray_ends range e.times (cond marked range.most range.least) unit (products (place, e)))
ranged end unit products true marked is range place ohm e = refl
ranged end unit products false marked is range place ohm e = absurd (no_way is)
  where
    no_way : false ≡ true → ⊥
    no_way q = cc

-- one more is added to what was added before
pub next_sum : (total part rest left all : ℤ) → total +ℤ left ≡ all → left ≡ part +ℤ rest → (total +ℤ part) +ℤ rest ≡ all
next_sum total part rest left all before split = omega (arith, linear, before, split)

-- a sum of so many parts fits
pub sum_fits : (total part : ℤ) (place : ℕ) → unsigned_abs total ≤ 2 ^ 100 + place * 2 ^ 105 → unsigned_abs part ≤ 2 ^ 105 → place < 61440 →
    FitsSigned w128 (total +ℤ part)
sum_fits total part place before small few = fits_signed_from_abs w128 (total +ℤ part) (omega (arith, ints, before, small, few))

-- and it is within the bound of one part more
pub next_small : (total part : ℤ) (place : ℕ) → unsigned_abs total ≤ 2 ^ 100 + place * 2 ^ 105 → unsigned_abs part ≤ 2 ^ 105 →
    unsigned_abs (total +ℤ part) ≤ 2 ^ 100 + (place + 1) * 2 ^ 105
next_small total part place before small = omega (arith, ints, before, small)

-- one path or three
pub few_paths : (times : ℕ) → (times ≡ 1) ⊎ (times ≡ 3) → times ≤ 3
few_paths times (inl one) = omega (arith, one)
few_paths times (inr three) = omega (arith, three)

-- what is chosen of ends is chosen of each
pub chosen : (ground stand : Bool) (ends : Ends) (end : Ends → ℤ) → end zero_ends ≡ pos 0 →
    end (cond ground (cond stand ends zero_ends) zero_ends) ≡ cond ground (cond stand (end ends) (pos 0)) (pos 0)
chosen true true ends end none = refl
chosen true false ends end none = none
chosen false stand ends end none = none

-- the interval that is made at a place, from those at its node
pub stray_is : (least most : Network) (corner : Corner) (unit : ℕ) (adjoint : List Ends) (varied : VariedPotentials) (place : ℕ)
    (e m : Element) (marked : Bool) (a r l h p s : Interval) (v : VariedEnds) →
    e ≡ element_of least place → m ≡ element_of most place → marked ≡ corner e.from.0 →
    ends_of a ≡ potential_ends adjoint e.from.0 → ends_of r ≡ potential_ends varied.reference e.from.0 →
    ends_of l ≡ potential_ends varied.lowering e.from.0 → ends_of h ≡ potential_ends varied.raising e.from.0 →
    ends_seen v ≡ varied_ends (ends_of r) (ends_of l) (ends_of h) → ends_of p ≡ product_ends (ends_of a) (ends_seen v) →
    ends_of s ≡ stray_ends (record { least = e.micro_ohm; most = m.micro_ohm }) e.times (cond marked m.micro_ohm e.micro_ohm) unit (ends_of p) →
    ends_of s ≡ stray_power_at least most corner unit adjoint varied place
stray_is least most corner unit adjoint varied place e m marked a r l h p s v is_e is_m is_marked is_a is_r is_l is_h is_v is_p is_s =
    let ends = intervals_of adjoint varied zero_ends in
    let k = e.from.0 in
    let moved : varied_ends (ends_of r) (ends_of l) (ends_of h) ≡ varied_ends (potential_ends varied.reference k)
    (potential_ends varied.lowering k) (potential_ends varied.raising k) =
    ap (λ (x : Ends). varied_ends x (ends_of l) (ends_of h)) is_r
    ∙ ap (λ (x : Ends). varied_ends (potential_ends varied.reference k) x (ends_of h)) is_l
    ∙ ap (λ (x : Ends). varied_ends (potential_ends varied.reference k) (potential_ends varied.lowering k) x) is_h in
    let product : ends_of p ≡ product_at ends (place, e) = is_p ∙ ap₂ (λ (x y : Ends). product_ends x y) is_a (is_v ∙ moved) in
    is_s
    ∙ ap₂ (λ (b : Bool) (x : Ends). stray_ends (record { least = e.micro_ohm; most = m.micro_ohm }) e.times (cond b m.micro_ohm e.micro_ohm) unit x) is_marked product
    ∙ ap (λ (x : Element). stray_ends (record { least = e.micro_ohm; most = x.micro_ohm }) e.times (cond (corner k) x.micro_ohm e.micro_ohm) unit (product_at ends (place, e))) is_m
    ∙ ap (λ (x : Element). stray_ends (record { least = x.micro_ohm; most = (element_of most place).micro_ohm }) x.times (cond (corner x.from.0) (element_of most place).micro_ohm x.micro_ohm) unit (product_at ends (place, x))) is_e

module _ (network : Network) (stands : Item → Bool) (ranges : Ranges) (corner : Corner) (unit : ℕ) (adjoint : List Ends)
    (varied : VariedPotentials) (own : Ends) (end : Ends → ℤ) where
  -- the stray power of a ground of the network
  abbrev of_ground : Placed → ℤ
  of_ground p = end (stray_at ranges (corner_ohm ranges corner) unit (product_at (intervals_of adjoint varied own)) p)

  -- that at a place of the two networks
  abbrev at_place : (least most : Network) → ℕ → ℤ
  at_place least most place = end (stray_power_at least most corner unit adjoint varied place)

  -- both are the same for each ground of the network
  same_at : (p : Placed) → is_ground p.1 ≡ true → IsIn network.list p →
      at_place (with_least ranges network) (with_most ranges network) p.0 ≡ of_ground p
  same_at p ground in_list =
      let least = element_with (λ x. (ranges x).least) network p.0 in_list.0 ∙ ap (regrounded (λ x. (ranges x).least)) (sym in_list.1) in
      let most = element_with (λ x. (ranges x).most) network p.0 in_list.0 ∙ ap (regrounded (λ x. (ranges x).most)) (sym in_list.1) in
      let products = product_at (intervals_of adjoint varied own) in
      ap (λ (x : Element). end (stray_ends (record { least = x.micro_ohm; most = (element_of (with_most ranges network) p.0).micro_ohm }) x.times (cond (corner x.from.0) (element_of (with_most ranges network) p.0).micro_ohm x.micro_ohm) unit (products (p.0, x)))) least
      ∙ ap (λ (x : Element). end (stray_ends (record { least = (regrounded (λ y. (ranges y).least) p.1).micro_ohm; most = x.micro_ohm }) p.1.times (cond (corner p.1.from.0) x.micro_ohm (regrounded (λ y. (ranges y).least) p.1).micro_ohm) unit (products p))) most
      ∙ ranged end unit products (is_ground p.1) (corner p.1.from.0) ground (ranges p.1) p.0 p.1.micro_ohm p.1

  -- the sum over the standing grounds of the one network is that of the definition
  pub strays_are : (least most : Network) (standing : List Placed) → least ≡ with_least ranges network → most ≡ with_most ranges network →
      standing ≡ standing_elements (with_least ranges network) stands →
      sum_of (λ p. at_place least most p.0) (grounds_among standing) ≡ sum_of of_ground (grounds_among (standing_elements network stands))
  strays_are least most standing is_least is_most is_standing =
      let plain = standing_elements network stands in
      let ohm = λ (e : Element). (ranges e).least in
      ap (λ ps. sum_of (λ p. at_place least most p.0) (grounds_among ps)) (is_standing ∙ standing_with network stands ohm)
      ∙ ap (sum_of (λ p. at_place least most p.0)) (filter-map (placed_with ohm) (λ p. is_ground p.1) plain)
      ∙ sum_of-map (placed_with ohm) (λ p. at_place least most p.0) (grounds_among plain)
      ∙ ap (λ (n : Network). sum_of (λ p. at_place n most p.0) (grounds_among plain)) is_least
      ∙ ap (λ (n : Network). sum_of (λ p. at_place (with_least ranges network) n p.0) (grounds_among plain)) is_most
      ∙ sum_of-same (λ p. at_place (with_least ranges network) (with_most ranges network) p.0) of_ground (grounds_among plain)
      (kept (λ p. is_ground p.1) (IsIn network.list) (λ p. at_place (with_least ranges network) (with_most ranges network) p.0 ≡ of_ground p) same_at plain
      (kept (λ p. stands p.1.item) (IsIn network.list) (IsIn network.list) (λ p is h. h) (enumerate_from 0 network.list) (each_in network.list)))

  -- so where all is added up, that is the end of the enclosure
  pub end_is : (kept_items : Item → Bool) (least most : Network) (total start : ℤ) (place : ℕ) → length least.list ≤ place →
      total +ℤ sum_from (at_place least most) kept_items least.list place ≡ start +ℤ sum_from (at_place least most) kept_items least.list
      0 →
      least ≡ with_least ranges network → most ≡ with_most ranges network →
      standing_elements least kept_items ≡ standing_elements (with_least ranges network) stands →
      total ≡ start +ℤ sum_of of_ground (grounds_among (standing_elements network stands))
  end_is kept_items least most total start place past added is_least is_most is_standing =
      let none = no_stray_left (at_place least most) kept_items least.list place past in
      let all : sum_from (at_place least most) kept_items least.list 0 ≡ sum_of of_ground
      (grounds_among (standing_elements network stands)) =
      strays_are least most (standing_elements least kept_items) is_least is_most is_standing in
      omega (arith, linear, added, none, all)
