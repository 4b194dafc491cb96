-- The certified enclosure ends near the reference enclosure in exact numbers: the sum over all grounds of how near each part is.
use Rattle.std.proofs.Common.{◌≡◌, ℕ, ◌+◌, ◌*◌, ◌<◌, ◌≤◌, Bool, true, List, [], ◌∷◌, length, ℤ, pos, ◌+ℤ◌, ◌-ℤ◌, ◌*ℤ◌, ◌≤ℤ◌, unsigned_abs, arith, ap, sym, subst}
use lib.IntN.{*ℤ_comm, *ℤ-zero}
use borrow.Author.Differences.{same_in}
use Rattle.std.specs.List.{AllByRecursion}
use Rattle.std.proofs.lemmas.List.Elements.{recursion_from_All}
use Rattle.std.proofs.Math.Nat.{mul-le-mul_left}
use Rattle.gic_base.proofs.Each.{weaker}
use Rattle.gic_fixed.specs.Encloses.{Encloses}
use Rattle.gic_fixed.specs.Ends.{Ends}
use Rattle.gic_fixed.proofs.Integers.{linear, up-*ℤ, down-*ℤ, *ℤ-≤ℤ, *ℤ-+ℤ, *ℤ--ℤ}
use Rattle.gic_model.specs.declared.parts.Element.{Element}
use Rattle.gic_model.specs.declared.parts.Item.{Item}
use Rattle.gic_model.specs.Earthing.{AreEarthed}
use Rattle.gic_model.specs.Limits.{IsWithinLimits, IsElementWithin}
use Rattle.gic_model.specs.Network.{Network, ends_at}
use Rattle.gic_model.specs.Solution.{Solution, IsOhm}
use Rattle.gic_model.specs.Standing.{is_live, IsLive, standing_elements}
use Rattle.gic_model.specs.Sums.{Placed, sum_of}
use Rattle.gic_model.proofs.Ends.{standing_within, ends_live, from_own}
use Rattle.gic_model.proofs.Members.{kept}
use Rattle.gic_varied.specs.Bounds.{AreModest}
use Rattle.gic_varied.specs.Corners.{all_least}
use Rattle.gic_varied.specs.Certified.{Voltages, Units, Intervals, AreCertified, product_at, certified_enclosure}
use Rattle.gic_varied.specs.Enclosure.{stray_at, varied_ends}
use Rattle.gic_varied.specs.Grounds.{is_ground, grounds_among}
use Rattle.gic_varied.specs.Lifts.{with_most}
use Rattle.gic_varied.specs.Near.{CertifiedEnclosuresAreNear, ExactSolutions, AreExact, AreExactParts, IsExactPart, IsNearAt, AreAllNear, Sizes, AreSizes, exact_ends, exact_enclosure, micro_paths, slack}
use Rattle.gic_varied.specs.Ranges.{Ranges, IsInRange, AreInRanges}
use Rattle.gic_varied.specs.Reciprocal.{current_by_weights}
use Rattle.gic_varied.proofs.Certain.{live_in}
use Rattle.gic_varied.proofs.GroundSums.{ground_sum, varied_sum, HasCarried, AreCarried}
use Rattle.gic_varied.proofs.LiftsCompared.{varied_near}
use Rattle.gic_varied.proofs.NearParts.{near_part, IsNearAdjoint, IsSizedGround, IsPartOf, beyond}
use Rattle.gic_varied.proofs.Regrounded.{placed_with, SolvesWith, solves_with}
use Rattle.gic_varied.proofs.Within.{ground_drive}

module _ {X : Type 0} where
  -- ends of stray powers in units, each up to a unit and a rest above a part, are all together as many units and all rests above
  sum_below : (n : ℕ) (l s r : X → ℤ) (xs : List X) → AllByRecursion (λ x. l x ≤ℤ (pos n *ℤ (s x +ℤ pos 1) +ℤ r x)) xs →
      sum_of l xs ≤ℤ (pos n *ℤ (sum_of s xs +ℤ pos (length xs)) +ℤ sum_of r xs)
  sum_below n l s r [] h = let none = *ℤ-zero (pos n) in omega (arith, linear)
  sum_below n l s r (x ∷ xs) h =
      let here = h.0 in
      let rest = sum_below n l s r xs h.1 in
      let split = *ℤ-+ℤ (pos n) (s x +ℤ pos 1) (sum_of s xs +ℤ pos (length xs)) in
      let inner : (s x +ℤ pos 1) +ℤ (sum_of s xs +ℤ pos (length xs)) ≡ (s x +ℤ sum_of s xs) +ℤ pos (length (x ∷ xs)) = omega (arith, linear) in
      let joined = ap (λ z. pos n *ℤ z) inner in
      omega (arith, linear)

  -- and as far below
  sum_above : (n : ℕ) (l s r : X → ℤ) (xs : List X) → AllByRecursion (λ x. (pos n *ℤ (s x -ℤ pos 1)) ≤ℤ (l x +ℤ r x)) xs →
      (pos n *ℤ (sum_of s xs -ℤ pos (length xs))) ≤ℤ (sum_of l xs +ℤ sum_of r xs)
  sum_above n l s r [] h = let none = *ℤ-zero (pos n) in omega (arith, linear)
  sum_above n l s r (x ∷ xs) h =
      let here = h.0 in
      let rest = sum_above n l s r xs h.1 in
      let split = *ℤ-+ℤ (pos n) (s x -ℤ pos 1) (sum_of s xs -ℤ pos (length xs)) in
      let inner : (s x -ℤ pos 1) +ℤ (sum_of s xs -ℤ pos (length xs)) ≡ (s x +ℤ sum_of s xs) -ℤ pos (length (x ∷ xs)) = omega (arith, linear) in
      let joined = ap (λ z. pos n *ℤ z) inner in
      omega (arith, linear)

  -- the rests of all together
  sum_rest : (b c k : ℕ) (z i : X → ℤ) (xs : List X) →
      sum_of (λ x. pos b *ℤ z x +ℤ pos c *ℤ (i x +ℤ pos k)) xs ≡ pos b *ℤ sum_of z xs +ℤ pos c *ℤ (sum_of i xs +ℤ pos (k * length xs))
  sum_rest b c k z i [] =
      let none = *ℤ-zero (pos b) in
      let nothing = *ℤ-zero (pos c) in
      let inner : pos 0 +ℤ pos (k * 0) ≡ pos 0 = omega (arith, linear) in
      let over = ap (λ y. pos c *ℤ y) inner in
      omega (arith, linear)
  sum_rest b c k z i (x ∷ xs) =
      let rest = sum_rest b c k z i xs in
      let first = *ℤ-+ℤ (pos b) (z x) (sum_of z xs) in
      let split = *ℤ-+ℤ (pos c) (i x +ℤ pos k) (sum_of i xs +ℤ pos (k * length xs)) in
      let inner : (i x +ℤ pos k) +ℤ (sum_of i xs +ℤ pos (k * length xs)) ≡ (i x +ℤ sum_of i xs) +ℤ pos (k * length (x ∷ xs)) = omega (arith, linear) in
      let joined = ap (λ y. pos c *ℤ y) inner in
      omega (arith, linear)

-- products in another order
own_in : (d n : ℕ) (a : ℤ) → pos d *ℤ (a *ℤ pos n) ≡ pos (n * d) *ℤ a
own_in d n a = same_in _ _ (simp (up-*ℤ, down-*ℤ) (omega arith))

-- over plain numbers: an own current times the denominator, from an interval that is at most 401 wide
own_below : (d n : ℕ) (q low high : ℤ) → q ≤ℤ (high *ℤ pos n) → (high -ℤ low) ≤ℤ pos 401 → (pos d *ℤ q) ≤ℤ (pos (n * d) *ℤ (low +ℤ pos 401))
own_below d n q low high bound narrow =
    let first = *ℤ-≤ℤ d q (high *ℤ pos n) bound in
    let turned = own_in d n high in
    let second = *ℤ-≤ℤ (n * d) high (low +ℤ pos 401) (omega (arith, linear)) in
    omega (arith, linear)

own_above : (d n : ℕ) (q low high : ℤ) → (low *ℤ pos n) ≤ℤ q → (high -ℤ low) ≤ℤ pos 401 → (pos (n * d) *ℤ (high -ℤ pos 401)) ≤ℤ (pos d *ℤ q)
own_above d n q low high bound narrow =
    let first = *ℤ-≤ℤ d (low *ℤ pos n) q bound in
    let turned = own_in d n low in
    let second = *ℤ-≤ℤ (n * d) (high -ℤ pos 401) low (omega (arith, linear)) in
    omega (arith, linear)

-- over plain numbers: currents that are together at most twice what is driven
driven_most : (c d most : ℕ) (s w : ℤ) → s ≤ℤ (pos (2 * d) *ℤ w) → w ≤ℤ pos most → (pos c *ℤ s) ≤ℤ pos (c * (2 * d * most))
driven_most c d most s w h bound =
    let times : (pos (2 * d) *ℤ w) ≤ℤ pos (2 * d * most) = *ℤ-≤ℤ (2 * d) w (pos most) bound in
    let again : (pos c *ℤ s) ≤ℤ pos (c * (2 * d * most)) = *ℤ-≤ℤ c s (pos (2 * d * most)) (omega (arith, linear)) in
    again

-- products of the rests, in another order
rests_in : (a u d g weights field grounds : ℕ) →
    43 * u * d * (2 * d * weights) + 2 * a * d * (21 * (2 * d * field) + 43 * u * d * g * grounds) ≡ (86 * u * weights + (84 * a * field + 86 * a * u * (g * grounds))) * (d * d)
rests_in a u d g weights field grounds = omega arith

-- over plain numbers: the rests of all grounds
rests_most : (a u d g n weights field grounds : ℕ) (z i : ℤ) → (pos (43 * u * d) *ℤ z) ≤ℤ pos (43 * u * d * (2 * d * weights)) → i ≤ℤ pos (21 * (2 * d * field)) → n ≤ grounds →
    (pos (43 * u * d) *ℤ z +ℤ pos (2 * a * d) *ℤ (i +ℤ pos (43 * u * d * g * n))) ≤ℤ pos ((86 * u * weights + (84 * a * field + 86 * a * u * (g * grounds))) * (d * d))
rests_most a u d g n weights field grounds z i first bound count =
    let more : 43 * u * d * g * n ≤ 43 * u * d * g * grounds = mul-le-mul_left (43 * u * d * g) count in
    let second : (pos (2 * a * d) *ℤ (i +ℤ pos (43 * u * d * g * n))) ≤ℤ pos (2 * a * d * (21 * (2 * d * field) + 43 * u * d * g * grounds)) =
    *ℤ-≤ℤ (2 * a * d) (i +ℤ pos (43 * u * d * g * n)) (pos (21 * (2 * d * field) + 43 * u * d * g * grounds)) (omega (arith, linear)) in
    let same = rests_in a u d g weights field grounds in
    subst (λ (m : ℕ). (pos (43 * u * d) *ℤ z +ℤ pos (2 * a * d) *ℤ (i +ℤ pos (43 * u * d * g * n))) ≤ℤ pos m) same (added _ _ _ _ first second)
  where
    added : (x y : ℤ) (l m : ℕ) → x ≤ℤ pos l → y ≤ℤ pos m → (x +ℤ y) ≤ℤ pos (l + m)
    added x y l m h k = omega (arith, linear)

-- over plain numbers: the own current and the grounds' parts together, from below
all_below : (one n grounds rest : ℕ) (dq own l s r : ℤ) → dq ≤ℤ (pos one *ℤ (own +ℤ pos 401)) → l ≤ℤ (pos one *ℤ (s +ℤ pos n) +ℤ r) → r ≤ℤ pos rest → n ≤ grounds →
    (dq +ℤ l) ≤ℤ ((own +ℤ s) *ℤ pos one +ℤ pos (one * (grounds + 401) + rest))
all_below one n grounds rest dq own l s r first second third count =
    let turned = *ℤ_comm (own +ℤ s) (pos one) in
    let split = *ℤ-+ℤ (pos one) own s in
    let own_split : pos one *ℤ (own +ℤ pos 401) ≡ pos one *ℤ own +ℤ pos (one * 401) = *ℤ-+ℤ (pos one) own (pos 401) in
    let sum_split : pos one *ℤ (s +ℤ pos n) ≡ pos one *ℤ s +ℤ pos (one * n) = *ℤ-+ℤ (pos one) s (pos n) in
    let more : one * n ≤ one * grounds = mul-le-mul_left one count in
    let units : one * (grounds + 401) ≡ one * grounds + one * 401 = omega arith in
    omega (arith, linear)

-- and from above
all_above : (one n grounds rest : ℕ) (dq own l s r : ℤ) → (pos one *ℤ (own -ℤ pos 401)) ≤ℤ dq → (pos one *ℤ (s -ℤ pos n)) ≤ℤ (l +ℤ r) → r ≤ℤ pos rest → n ≤ grounds →
    ((own +ℤ s) *ℤ pos one) ≤ℤ ((dq +ℤ l) +ℤ pos (one * (grounds + 401) + rest))
all_above one n grounds rest dq own l s r first second third count =
    let turned = *ℤ_comm (own +ℤ s) (pos one) in
    let split = *ℤ-+ℤ (pos one) own s in
    let own_split : pos one *ℤ (own -ℤ pos 401) ≡ pos one *ℤ own -ℤ pos (one * 401) = *ℤ--ℤ (pos one) own (pos 401) in
    let sum_split : pos one *ℤ (s -ℤ pos n) ≡ pos one *ℤ s -ℤ pos (one * n) = *ℤ--ℤ (pos one) s (pos n) in
    let more : one * n ≤ one * grounds = mul-le-mul_left one count in
    let units : one * (grounds + 401) ≡ one * grounds + one * 401 = omega arith in
    omega (arith, linear)

-- the slack times the denominator twice
slack_in : (t e grounds rest : ℕ) → t * e * (grounds + 401) + rest * e ≡ (t * (grounds + 401) + rest) * e
slack_in t e grounds rest = omega arith

-- an interval of the adjoint potential ends near it, over the one denominator
near_adjoint : (s : Solution) (a d k : ℕ) (ends : Ends) → s.denominator ≡ d → Encloses ends.low ends.high (s.potential k) (a * s.denominator) → IsNearAt s a k ends →
    IsNearAdjoint a d (s.potential k) ends
near_adjoint s a d k ends over holds near =
    subst (λ (n : ℕ). IsNearAdjoint a n (s.potential k) ends) over (record { holds = holds; low = near.low; high = near.high })

module _ (network : Network) (stands : Item → Bool) (ranges : Ranges) (given : Voltages) (units : Units) (ends : Intervals) (exact : ExactSolutions) (parts : Placed → Ends) (sizes : Sizes)
    (limits : IsWithinLimits network) (most_limits : IsWithinLimits (with_most ranges network)) (earthed : AreEarthed (standing_elements network stands))
    (inside : AreInRanges ranges (λ e. (ranges e).least) (standing_elements network stands)) (modest : AreModest ranges (standing_elements network stands))
    (some_stray : 0 < units.stray) (some_adjoint : 0 < units.adjoint) (some_potential : 0 < units.potential)
    (certified : AreCertified network stands ranges all_least given units ends) (near : AreAllNear network stands ranges given units ends)
    (are : AreExact network stands ranges given.field given.weights exact) (are_parts : AreExactParts (standing_elements network stands) ranges exact parts)
    (are_sizes : AreSizes (standing_elements network stands) ranges given.field given.weights sizes) where
  abbrev standing : List Placed
  standing = standing_elements network stands

  abbrev within : AllByRecursion (λ p. IsElementWithin network.nodes p.1) standing
  within = standing_within network stands limits

  abbrev least : Element → ℕ
  least e = (ranges e).least

  abbrev a : ℕ
  a = units.adjoint

  abbrev u : ℕ
  u = units.potential

  abbrev d : ℕ
  d = exact.reference.denominator

  abbrev g : ℕ
  g = sizes.conductance

  abbrev one : ℕ
  one = units.stray * (a * u) * (d * d)

  abbrev stray : Placed → Ends
  stray = stray_at ranges least units.stray (product_at ends)

  -- what a ground carries in the adjoint solution, either way
  abbrev carry : Placed → ℤ
  carry p = pos (unsigned_abs (exact.adjoint.current p.0))

  -- 21 times what the grounds of the reference carry
  abbrev total : ℤ
  total = pos 21 *ℤ sum_of (λ p. pos (unsigned_abs (exact.reference.current p.0))) (grounds_among standing)

  -- the adjoint solution, over the network's own elements
  adjoins : SolvesWith standing least given.weights exact.adjoint
  adjoins = solves_with network stands least given.weights exact.adjoint are.adjoins

  -- what is known of one element
  record Known (carried : Placed → ℤ) (p : Placed) : Type 0 where
    ends_alive : (m : ℕ) → ends_at p.1 m ≡ true → is_live standing m ≡ true
    in_range : is_ground p.1 ≡ true → IsInRange (ranges p.1) (least p.1)
    no_weight : is_ground p.1 ≡ true → given.weights p.0 ≡ pos 0
    by_adjoint : IsOhm given.weights exact.adjoint (placed_with least p)
    carries_low : is_ground p.1 ≡ true → (pos (micro_paths p) *ℤ pos (unsigned_abs (exact_ends exact p.1.from.0).low)) ≤ℤ (pos (least p.1) *ℤ carried p)
    carries_high : is_ground p.1 ≡ true → (pos (micro_paths p) *ℤ pos (unsigned_abs (exact_ends exact p.1.from.0).high)) ≤ℤ (pos (least p.1) *ℤ carried p)
    conducts : is_ground p.1 ≡ true → micro_paths p ≤ least p.1 * g
    is_part : is_ground p.1 ≡ true → IsExactPart ranges exact p (parts p)

  known : (carried : Placed → ℤ) → AreCarried standing ranges exact carried total → AllByRecursion (Known carried) standing
  known carried carries = gather standing (ends_live standing)
      (recursion_from_All (λ p. is_ground p.1 ≡ true → IsInRange (ranges p.1) (least p.1)) standing inside)
      (recursion_from_All (λ p. is_ground p.1 ≡ true → given.weights p.0 ≡ pos 0) standing certified.weights)
      adjoins.by_ohm carries.low carries.high
      (recursion_from_All (λ p. is_ground p.1 ≡ true → micro_paths p ≤ least p.1 * g) standing are_sizes.conducting)
      (recursion_from_All (λ p. is_ground p.1 ≡ true → IsExactPart ranges exact p (parts p)) standing are_parts)
    where
      gather : (ps : List Placed) → AllByRecursion (λ p. (m : ℕ) → ends_at p.1 m ≡ true → is_live standing m ≡ true) ps →
          AllByRecursion (λ p. is_ground p.1 ≡ true → IsInRange (ranges p.1) (least p.1)) ps → AllByRecursion (λ p. is_ground p.1 ≡ true → given.weights p.0 ≡ pos 0) ps →
          AllByRecursion (λ p. IsOhm given.weights exact.adjoint (placed_with least p)) ps →
          AllByRecursion (λ p. is_ground p.1 ≡ true → (pos (micro_paths p) *ℤ pos (unsigned_abs (exact_ends exact p.1.from.0).low)) ≤ℤ (pos (least p.1) *ℤ carried p)) ps →
          AllByRecursion (λ p. is_ground p.1 ≡ true → (pos (micro_paths p) *ℤ pos (unsigned_abs (exact_ends exact p.1.from.0).high)) ≤ℤ (pos (least p.1) *ℤ carried p)) ps →
          AllByRecursion (λ p. is_ground p.1 ≡ true → micro_paths p ≤ least p.1 * g) ps → AllByRecursion (λ p. is_ground p.1 ≡ true → IsExactPart ranges exact p (parts p)) ps →
          AllByRecursion (Known carried) ps
      gather [] a b c d e f g h = tt
      gather (p ∷ ps) a b c d e f g h = (
        record {
          ends_alive = a.0;
          in_range = b.0;
          no_weight = c.0;
          by_adjoint = d.0;
          carries_low = e.0;
          carries_high = f.0;
          conducts = g.0;
          is_part = h.0;
        },
        gather ps a.1 b.1 c.1 d.1 e.1 f.1 g.1 h.1,
      )

  -- how far the interval of a ground's stray power may be from its part
  abbrev rest : (Placed → ℤ) → Placed → ℤ
  rest carried p = beyond a u d g (exact.adjoint.current p.0) (carried p)

  -- the interval of a ground's stray power ends near its part
  abbrev IsNearBy : (Placed → ℤ) → Placed → Type 0
  IsNearBy carried p =
      ((parts p).low ≤ℤ (pos one *ℤ ((stray p).low +ℤ pos 1) +ℤ rest carried p)) × ((pos one *ℤ ((stray p).high -ℤ pos 1)) ≤ℤ ((parts p).high +ℤ rest carried p))

  -- so it is at one ground
  near_ground : (carried : Placed → ℤ) (p : Placed) → is_ground p.1 ≡ true → Known carried p → IsNearBy carried p
  near_ground carried p ground h =
      let k = p.1.from.0 in
      let live : IsLive standing k = from_own p.1 (is_live standing) h.ends_alive in
      let also = live_in network stands least k live in
      let sized : IsSizedGround (ranges p.1) (p.1.times * 1000000) g (exact.adjoint.potential k) (exact.adjoint.current p.0) (carried p) (exact_ends exact k) = record {
        inside = h.in_range ground;
        current = ground_drive least given.weights exact.adjoint p ground (h.no_weight ground) h.by_adjoint;
        low = h.carries_low ground;
        high = h.carries_high ground;
        conductance = h.conducts ground;
      } in
      let part : IsPartOf (ranges p.1) (p.1.times * 1000000) (exact.adjoint.potential k) (exact_ends exact k) (parts p) = record {
        low = (h.is_part ground).low;
        high = (h.is_part ground).high;
      } in
      near_part (ranges p.1) p.1.times units.stray a u d g (exact.adjoint.potential k) (exact.adjoint.current p.0) (carried p)
      (ends.adjoint k) (varied_ends (ends.reference k) (ends.lowering k) (ends.raising k)) (exact_ends exact k) (parts p)
      some_stray some_adjoint some_potential are.refers.denominator_above_0 sized
      (near_adjoint exact.adjoint a d k (ends.adjoint k) are.adjoint_over (certified.adjoint exact.adjoint are.adjoins k also) (near.adjoint exact.adjoint are.adjoins k also))
      (varied_near network stands ranges given units ends exact limits most_limits earthed inside modest some_potential certified near are k live)
      part

  -- and at each
  each_near : (carried : Placed → ℤ) → AreCarried standing ranges exact carried total → AllByRecursion (IsNearBy carried) (grounds_among standing)
  each_near carried carries = kept (λ p. is_ground p.1) (Known carried) (IsNearBy carried) (near_ground carried) standing (known carried carries)

  -- the rests of all grounds together are within the slack
  rests_below : (carried : Placed → ℤ) → AreCarried standing ranges exact carried total →
      sum_of (rest carried) (grounds_among standing) ≤ℤ pos ((86 * u * sizes.weights + (84 * a * sizes.field + 86 * a * u * (g * sizes.grounds))) * (d * d))
  rests_below carried carries =
      let adjoint : sum_of carry (grounds_among standing) ≤ℤ (pos (2 * exact.adjoint.denominator) *ℤ sum_of (λ p. pos (are_sizes.driven_weights p.0)) standing) =
      ground_sum network.nodes standing within ranges given.weights are_sizes.driven_weights exact.adjoint inside certified.weights adjoins are_sizes.by_weights in
      let over : sum_of carry (grounds_among standing) ≤ℤ (pos (2 * d) *ℤ sum_of (λ p. pos (are_sizes.driven_weights p.0)) standing) =
      subst (λ (n : ℕ). sum_of carry (grounds_among standing) ≤ℤ (pos (2 * n) *ℤ sum_of (λ p. pos (are_sizes.driven_weights p.0)) standing)) are.adjoint_over adjoint in
      let reference = ground_sum network.nodes standing within ranges given.field are_sizes.driven_field exact.reference inside certified.field
      (solves_with network stands least given.field exact.reference are.refers) are_sizes.by_field in
      let first = driven_most (43 * u * d) d sizes.weights (sum_of carry (grounds_among standing)) (sum_of (λ p. pos (are_sizes.driven_weights p.0)) standing) over are_sizes.weights_sum in
      let second = driven_most 21 d sizes.field (sum_of (λ p. pos (unsigned_abs (exact.reference.current p.0))) (grounds_among standing)) (sum_of (λ p. pos (are_sizes.driven_field p.0)) standing)
      reference are_sizes.field_sum in
      let both = rests_most a u d g (length (grounds_among standing)) sizes.weights sizes.field sizes.grounds (sum_of carry (grounds_among standing)) (sum_of carried (grounds_among standing))
      first (then_below _ _ _ carries.sum second) are_sizes.count in
      subst (λ (z : ℤ). z ≤ℤ pos ((86 * u * sizes.weights + (84 * a * sizes.field + 86 * a * u * (g * sizes.grounds))) * (d * d)))
      (sym (sum_rest (43 * u * d) (2 * a * d) (43 * u * d * g) carry carried (grounds_among standing))) both
    where
      then_below : (x y z : ℤ) → x ≤ℤ y → y ≤ℤ z → x ≤ℤ z
      then_below x y z h k = omega (arith, linear)

  abbrev certain_ends : Ends
  certain_ends = certified_enclosure standing ranges all_least units ends

  abbrev exact_all : Ends
  exact_all = exact_enclosure standing given.weights exact parts

  abbrev ends_slack : ℕ
  ends_slack = slack units sizes * (d * d)

  -- the reference's own current and the parts of all grounds
  near_with : (carried : Placed → ℤ) → AreCarried standing ranges exact carried total →
      (exact_all.low ≤ℤ (certain_ends.low *ℤ pos one +ℤ pos ends_slack)) × ((certain_ends.high *ℤ pos one) ≤ℤ (exact_all.high +ℤ pos ends_slack))
  near_with carried carries =
      let q = current_by_weights standing given.weights exact.reference in
      let n = units.stray * (a * u) * d in
      let grounds = grounds_among standing in
      let others = 86 * u * sizes.weights + (84 * a * sizes.field + 86 * a * u * (g * sizes.grounds)) in
      let each = each_near carried carries in
      let below = sum_below one (λ p. (parts p).low) (λ p. (stray p).low) (rest carried) grounds (weaker (IsNearBy carried) _ (λ p h. h.0) grounds each) in
      let above = sum_above one (λ p. (parts p).high) (λ p. (stray p).high) (rest carried) grounds (weaker (IsNearBy carried) _ (λ p h. h.1) grounds each) in
      let rests = rests_below carried carries in
      let holds = certified.own exact.reference are.refers in
      let regrouped : n * d ≡ one = omega arith in
      let own_low = subst (λ (m : ℕ). (pos d *ℤ q) ≤ℤ (pos m *ℤ (ends.own.low +ℤ pos 401))) regrouped (own_below d n q ends.own.low ends.own.high holds.below_hi near.own) in
      let own_high = subst (λ (m : ℕ). (pos m *ℤ (ends.own.high -ℤ pos 401)) ≤ℤ (pos d *ℤ q)) regrouped (own_above d n q ends.own.low ends.own.high holds.above_lo near.own) in
      let same : one * (sizes.grounds + 401) + others * (d * d) ≡ ends_slack = slack_in (units.stray * (a * u)) (d * d) sizes.grounds others in (
        subst (λ (m : ℕ). exact_all.low ≤ℤ (certain_ends.low *ℤ pos one +ℤ pos m)) same
            (all_below one (length grounds) sizes.grounds (others * (d * d)) (pos d *ℤ q) ends.own.low (sum_of (λ p. (parts p).low) grounds) (sum_of (λ p. (stray p).low) grounds) (sum_of (rest carried) grounds)
            own_low below rests are_sizes.count),
        subst (λ (m : ℕ). (certain_ends.high *ℤ pos one) ≤ℤ (exact_all.high +ℤ pos m)) same
            (all_above one (length grounds) sizes.grounds (others * (d * d)) (pos d *ℤ q) ends.own.high (sum_of (λ p. (parts p).high) grounds) (sum_of (λ p. (stray p).high) grounds) (sum_of (rest carried) grounds)
            own_high above rests are_sizes.count),
      )

  -- with the currents that the grounds can carry
  near_ends : (exact_all.low ≤ℤ (certain_ends.low *ℤ pos one +ℤ pos ends_slack)) × ((certain_ends.high *ℤ pos one) ≤ℤ (exact_all.high +ℤ pos ends_slack))
  near_ends =
      let has : HasCarried standing ranges exact total =
      varied_sum network.nodes standing within ranges given.field exact inside (recursion_from_All (λ p. is_ground p.1 ≡ true → (ranges p.1).most ≤ 20 * (ranges p.1).least) standing modest)
      certified.field (solves_with network stands least given.field exact.reference are.refers) are.lowers are.raises in
      near_with has.carried has.are

-- the certified enclosure ends near the reference enclosure
pub enclosures_are_near : CertifiedEnclosuresAreNear
enclosures_are_near network stands ranges given units ends exact parts sizes limits least_limits most_limits earthed inside modest some_stray some_adjoint some_potential certified near are are_parts are_sizes =
    near_ends network stands ranges given units ends exact parts sizes limits most_limits earthed inside modest some_stray some_adjoint some_potential certified near are are_parts are_sizes
