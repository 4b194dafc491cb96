-- The lifts that are solved are at most a few units above the exact ones, since they are solved for voltages that are at most so much greater; so the interval of a varied potential ends near both exact ends.
use Rattle.std.proofs.Common.{◌≡◌, ℕ, ◌+◌, ◌*◌, ◌-◌, ◌<◌, ◌≤◌, Bool, true, false, cond, ◌==◌, List, [], ◌∷◌, ℤ, pos, negsuc, neg_ℤ, ◌+ℤ◌, ◌-ℤ◌, ◌*ℤ◌, ◌≤ℤ◌, ◌<ℤ◌, arith, refl, ap, sym, ◌∙◌}
use lib.IntN.{*ℤ_comm, *ℤ-zero}
use borrow.Author.Differences.{same_in}
use Rattle.std.specs.Int.{int_max}
use Rattle.std.specs.List.{AllByRecursion}
use Rattle.std.proofs.lemmas.Int.{ints, clamps, by_lt_z}
use Rattle.std.proofs.lemmas.List.Elements.{recursion_from_All}
use Rattle.std.proofs.Math.Nat.{mul-le-mul_right}
use Rattle.gic_base.proofs.Each.{weaker}
use Rattle.gic_exists.specs.Exists.{HasSolution}
use Rattle.gic_exists.proofs.InNetworks.{exists_in}
use Rattle.gic_fixed.specs.Encloses.{Encloses}
use Rattle.gic_fixed.specs.Ends.{Ends}
use Rattle.gic_fixed.specs.Rounding.{ceil_div}
use Rattle.gic_fixed.proofs.Divisions.{ceil_below, positive_product}
use Rattle.gic_fixed.proofs.Integers.{linear, up-*ℤ, down-*ℤ, *ℤ-≤ℤ, ≤ℤ-from_*ℤ, *ℤ-+ℤ, *ℤ--ℤ, *ℤ-neg_ℤ, *ℤ_assoc, *ℤ_left_comm}
use Rattle.gic_model.specs.declared.parts.End.{End}
use Rattle.gic_model.specs.declared.parts.End.TheVariants.{Node, Earth}
use Rattle.gic_model.specs.declared.parts.Element.{Element}
use Rattle.gic_model.specs.declared.parts.Item.{Item}
use Rattle.gic_model.specs.Earthing.{is_earth, AreEarthed}
use Rattle.gic_model.specs.Limits.{IsElementWithin, IsWithinLimits}
use Rattle.gic_model.specs.Network.{Network, ends_at}
use Rattle.gic_model.specs.Solution.{Solution, IsOhm}
use Rattle.gic_model.specs.Standing.{is_live, IsLive, elements_at, value_at, leaving, standing_elements}
use Rattle.gic_model.specs.Sums.{Placed, sum_of}
use Rattle.gic_model.proofs.Ends.{standing_within, ends_live, from_own, some_times}
use Rattle.gic_model.proofs.Members.{both, kept}
use Rattle.gic_varied.specs.Bounds.{AreModest}
use Rattle.gic_varied.specs.Corners.{all_least}
use Rattle.gic_varied.specs.Certified.{Voltages, Units, Intervals, AreLiftVolts, HoldPotentials, AreCertified}
use Rattle.gic_varied.specs.Enclosure.{lift_volt, varied_ends}
use Rattle.gic_varied.specs.Grounds.{is_ground}
use Rattle.gic_varied.specs.Lifts.{with_most}
use Rattle.gic_varied.specs.Near.{ExactSolutions, AreExact, IsExactLift, IsLiftedGround, AreNear, AreAllNear, exact_ends, heights, micro_paths}
use Rattle.gic_varied.specs.Ranges.{Range, Ranges, IsInRange, AreInRanges}
use Rattle.gic_varied.proofs.Certain.{live_in}
use Rattle.gic_varied.proofs.GroundCurrents.{lift_below}
use Rattle.gic_varied.proofs.Intervals.{lift_lifts}
use Rattle.gic_varied.proofs.Lifted.{ground_with_volt, no_volt}
use Rattle.gic_varied.proofs.Lowest.{IsLowest, IsDownTo, conductor_down, ground_down, ground_lowest, not_below}
use Rattle.gic_varied.proofs.OtherGrounds.{earthed_with}
use Rattle.gic_varied.proofs.Regrounded.{placed_with, SolvesWith, solves_with}
use Rattle.gic_varied.proofs.Within.{own_ohm}

-- one solution's number over the denominator e, less another's over x
abbrev less : (x e : ℕ) → ℤ → ℤ → ℤ
less x e a b = pos x *ℤ a -ℤ pos e *ℤ b

less-neg_ℤ : (x e : ℕ) (a b : ℤ) → neg_ℤ (less x e a b) ≡ less x e (neg_ℤ a) (neg_ℤ b)
less-neg_ℤ x e a b =
    let first = *ℤ-neg_ℤ (pos x) a in
    let second = *ℤ-neg_ℤ (pos e) b in
    omega (arith, linear)

less-+ℤ : (x e : ℕ) (a b a' b' : ℤ) → less x e (a +ℤ a') (b +ℤ b') ≡ less x e a b +ℤ less x e a' b'
less-+ℤ x e a b a' b' =
    let first = *ℤ-+ℤ (pos x) a a' in
    let second = *ℤ-+ℤ (pos e) b b' in
    omega (arith, linear)

less--ℤ : (x e : ℕ) (a b a' b' : ℤ) → less x e (a -ℤ a') (b -ℤ b') ≡ less x e a b -ℤ less x e a' b'
less--ℤ x e a b a' b' =
    let first = *ℤ--ℤ (pos x) a a' in
    let second = *ℤ--ℤ (pos e) b b' in
    omega (arith, linear)

none_less : (x e : ℕ) (a b : ℤ) → a ≡ pos 0 → b ≡ pos 0 → less x e a b ≡ pos 0
none_less x e a b none nothing =
    let first = ap (λ z. pos x *ℤ z) none ∙ *ℤ-zero (pos x) in
    let second = ap (λ z. pos e *ℤ z) nothing ∙ *ℤ-zero (pos e) in
    omega (arith, linear)

-- what leaves a node
leaving_less : (x e k : ℕ) (el : Element) (a b : ℤ) → leaving k el (less x e a b) ≡ less x e (leaving k el a) (leaving k el b)
leaving_less x e k el a b = by (el.from.0 == k)
  where
    by : (t : Bool) → cond t (less x e a b) (neg_ℤ (less x e a b)) ≡ less x e (cond t a (neg_ℤ a)) (cond t b (neg_ℤ b))
    by true = refl
    by false = less-neg_ℤ x e a b

sum_of_less : (x e k : ℕ) (f g : ℕ → ℤ) (ps : List Placed) →
    sum_of (λ p. leaving k p.1 (less x e (f p.0) (g p.0))) ps ≡ less x e (sum_of (λ p. leaving k p.1 (f p.0)) ps) (sum_of (λ p. leaving k p.1 (g p.0)) ps)
sum_of_less x e k f g [] = sym (none_less x e (pos 0) (pos 0) refl refl)
sum_of_less x e k f g (p ∷ ps) =
    let here = leaving_less x e k p.1 (f p.0) (g p.0) in
    let rest = sum_of_less x e k f g ps in
    let split = less-+ℤ x e (leaving k p.1 (f p.0)) (leaving k p.1 (g p.0)) (sum_of (λ q. leaving k q.1 (f q.0)) ps) (sum_of (λ q. leaving k q.1 (g q.0)) ps) in
    omega (arith, linear)

-- Ohm's law of both, without voltages
ohm_of_less : (r w : ℤ) (x e : ℕ) (c d a b : ℤ) → r *ℤ c ≡ w *ℤ a → r *ℤ d ≡ w *ℤ b → r *ℤ less x e c d ≡ w *ℤ less x e a b
ohm_of_less r w x e c d a b one other =
    let left = *ℤ--ℤ r (pos x *ℤ c) (pos e *ℤ d) in
    let first = *ℤ_left_comm r (pos x) c ∙ ap (λ z. pos x *ℤ z) one ∙ *ℤ_left_comm (pos x) w a in
    let second = *ℤ_left_comm r (pos e) d ∙ ap (λ z. pos e *ℤ z) other ∙ *ℤ_left_comm (pos e) w b in
    let right = *ℤ--ℤ w (pos x *ℤ a) (pos e *ℤ b) in
    omega (arith, linear)

-- between two nodes the fall stays as it is where one solution's potentials are all raised by s
raised_fall : (x e : ℕ) (s : ℤ) (f g : ℕ → ℤ) (i : ℕ) (t : End) → is_earth t ≡ false →
    less x e (f i -ℤ value_at f t) (g i -ℤ value_at g t) ≡ less x e (f i +ℤ s) (g i) -ℤ value_at (λ m. less x e (f m +ℤ s) (g m)) t
raised_fall x e s f g i (Node m) h =
    let inner : f i -ℤ f m.0 ≡ (f i +ℤ s) -ℤ (f m.0 +ℤ s) = omega (arith, linear) in
    ap (λ z. less x e z (g i -ℤ g m.0)) inner ∙ less--ℤ x e (f i +ℤ s) (g i) (f m.0 +ℤ s) (g m.0)
raised_fall x e s f g i Earth h = absurd (no_way h)
  where
    no_way : true ≡ false → ⊥
    no_way q = cc

-- a flow by Ohm's law over a height, at any element but a ground
abbrev pub IsFlow : (z c : ℕ → ℤ) → Placed → Type 0
IsFlow z c p = is_ground p.1 ≡ false → pos p.1.micro_ohm *ℤ c p.0 ≡ pos (micro_paths p) *ℤ (z p.1.from.0 -ℤ value_at z p.1.to)

-- a ground that only brings current to a node lower than earth
abbrev pub IsBringing : (z c : ℕ → ℤ) → Placed → Type 0
IsBringing z c p = is_ground p.1 ≡ true → z p.1.from.0 <ℤ pos 0 → c p.0 <ℤ pos 0

-- then no live node is lower than earth
pub none_lower : (nodes : ℕ) (standing : List Placed) → AllByRecursion (λ p. IsElementWithin nodes p.1) standing → AreEarthed standing → (z c : ℕ → ℤ) →
    ((k : ℕ) → IsLive standing k → sum_of (λ p. leaving k p.1 (c p.0)) (elements_at standing k) ≡ pos 0) →
    AllByRecursion (λ p. IsFlow z c p × IsBringing z c p) standing → (k : ℕ) → IsLive standing k → pos 0 ≤ℤ z k
none_lower nodes standing within earthed z c kirchhoff flows = not_below nodes standing within z c kirchhoff down_to earthed
  where
    Live : Placed → Type 0
    Live p = (m : ℕ) → ends_at p.1 m ≡ true → is_live standing m ≡ true

    Within : Placed → Type 0
    Within p = IsElementWithin nodes p.1

    Flow : Placed → Type 0
    Flow p = IsFlow z c p × IsBringing z c p

    one : (k : ℕ) → IsLowest standing z k → (p : Placed) → ends_at p.1 k ≡ true → Within p → Live p → Flow p → (b : Bool) → is_ground p.1 ≡ b → IsDownTo z c k p
    one k low p at limits live h true ground = ground_down z c k p ground at (h.1 ground (ground_lowest standing z k p.1 ground at low))
    one k low p at limits live h false other =
        let some = some_times nodes p limits in
        let least = limits.least_ohm in
        conductor_down standing z c k p low (omega arith) (omega arith) limits.ends_differ at live (h.0 other)

    down_to : (k : ℕ) → IsLowest standing z k → AllByRecursion (IsDownTo z c k) (elements_at standing k)
    down_to k low =
        kept (λ p. ends_at p.1 k) (λ p. (Within p × Live p) × Flow p) (IsDownTo z c k) (λ p at h. one k low p at h.0.0 h.0.1 h.1 (is_ground p.1) refl) standing
        (both (λ p. Within p × Live p) Flow standing (both Within Live standing within (ends_live standing)) flows)

-- over plain numbers: a bound of a number is one of what is above 0 of it
height_bound : (e : ℕ) (high p : ℤ) → (high *ℤ pos e) ≤ℤ (p +ℤ pos (2 * e)) → (pos e *ℤ int_max high (pos 0)) ≤ℤ (int_max p (pos 0) +ℤ pos (2 * e))
height_bound e (pos n) p h =
    let same : int_max (pos n) (pos 0) ≡ pos n = omega (arith, ints, clamps) in
    let times = ap (λ z. pos e *ℤ z) same in
    let turned = *ℤ_comm (pos n) (pos e) in
    let above : p ≤ℤ int_max p (pos 0) = omega (arith, linear, clamps) in
    omega (arith, linear)
height_bound e (negsuc n) p h =
    let same : int_max (negsuc n) (pos 0) ≡ pos 0 = omega (arith, ints, clamps) in
    let times = ap (λ z. pos e *ℤ z) same ∙ *ℤ-zero (pos e) in
    let above : pos 0 ≤ℤ int_max p (pos 0) = omega (arith, linear, clamps) in
    omega (arith, linear)

-- a quotient of the height t times k that is rounded up, where k is at most 19 times the divisor
quotient_bound : (l k e : ℕ) (q t h : ℤ) → k ≤ 19 * l → (pos l *ℤ q) <ℤ ((pos k *ℤ t) +ℤ pos l) → (pos e *ℤ t) ≤ℤ (h +ℤ pos (2 * e)) →
    (pos e *ℤ (pos l *ℤ q)) ≤ℤ ((pos k *ℤ h) +ℤ pos (39 * e * l))
quotient_bound l k e q t h few rounded bound =
    let scaled = *ℤ-≤ℤ e (pos l *ℤ q) ((pos k *ℤ t) +ℤ pos l) (omega (arith, linear)) in
    let split = *ℤ-+ℤ (pos e) (pos k *ℤ t) (pos l) in
    let turned = *ℤ_left_comm (pos e) (pos k) t in
    let times = *ℤ-≤ℤ k (pos e *ℤ t) (h +ℤ pos (2 * e)) bound in
    let times_split = *ℤ-+ℤ (pos k) h (pos (2 * e)) in
    let fewer : k * (2 * e) ≤ 19 * l * (2 * e) = mul-le-mul_right (2 * e) few in
    let one : pos e *ℤ pos l ≡ pos (e * l) = refl in
    let other : pos k *ℤ pos (2 * e) ≡ pos (k * (2 * e)) = refl in
    omega (arith, linear)

-- so much is the voltage of a lift at most, times the least resistance
volt_bound : (range : Range) (e : ℕ) (high p u : ℤ) → IsInRange range range.least → range.most ≤ 20 * range.least → (high *ℤ pos e) ≤ℤ (p +ℤ pos (2 * e)) → u ≡ lift_volt range high →
    (pos e *ℤ (pos range.least *ℤ neg_ℤ u)) ≤ℤ ((pos (range.most - range.least) *ℤ int_max p (pos 0)) +ℤ pos (39 * e * range.least))
volt_bound range e high p u inside modest bound is =
    let q = ceil_div (pos (range.most - range.least) *ℤ int_max high (pos 0)) (pos range.least) in
    let made = quotient_bound range.least (range.most - range.least) e q (int_max high (pos 0)) (int_max p (pos 0)) (omega arith)
    (ceil_below (pos (range.most - range.least) *ℤ int_max high (pos 0)) range.least inside.above_0) (height_bound e high p bound) in
    let back : neg_ℤ u ≡ q = omega (arith, linear) in
    let times = ap (λ z. pos e *ℤ (pos range.least *ℤ z)) back in
    omega (arith, linear)

-- a number below 0 and one that is a multiple of it
pub below_from : (n w : ℕ) (t a : ℤ) → 0 < w → pos n *ℤ t ≡ pos w *ℤ a → a <ℤ pos 0 → t <ℤ pos 0
below_from n w t a some is below = by_lt_z t (pos 0) (λ under. under) (λ more. absurd (never more))
  where
    never : pos 0 ≤ℤ t → ⊥
    never more =
        let scaled = *ℤ-≤ℤ n (pos 0) t more in
        let none = *ℤ-zero (pos n) in
        let driven = *ℤ-≤ℤ w a (negsuc 0) (omega (arith, linear)) in
        let turned : pos w *ℤ negsuc 0 ≡ neg_ℤ (pos w *ℤ pos 1) = *ℤ-neg_ℤ (pos w) (pos 1) in
        let one : pos w *ℤ pos 1 ≡ pos w = omega (arith, linear) in
        omega (arith, linear)

-- the drives of both at a ground, times the least resistance
abbrev drive : (l x e : ℕ) (a b g u : ℤ) → ℤ
drive l x e a b g u = pos x *ℤ (pos l *ℤ a -ℤ g) -ℤ pos e *ℤ (pos l *ℤ (b +ℤ pos x *ℤ u))

drive_times : (l m w x e : ℕ) (c d a b g u : ℤ) → pos (l * m) *ℤ c ≡ pos w *ℤ (pos l *ℤ a -ℤ g) → pos m *ℤ d ≡ pos w *ℤ (b +ℤ pos x *ℤ u) →
    pos (l * m) *ℤ less x e c d ≡ pos w *ℤ drive l x e a b g u
drive_times l m w x e c d a b g u one other =
    let y = b +ℤ pos x *ℤ u in
    let inner : pos (l * m) *ℤ d ≡ pos w *ℤ (pos l *ℤ y) = *ℤ_assoc (pos l) (pos m) d ∙ ap (λ z. pos l *ℤ z) other ∙ *ℤ_left_comm (pos l) (pos w) y in
    ohm_of_less (pos (l * m)) (pos w) x e c d (pos l *ℤ a -ℤ g) (pos l *ℤ y) one inner

-- multiplied out
drive_is : (l x e : ℕ) (a b g u : ℤ) →
    drive l x e a b g u ≡ pos l *ℤ (pos x *ℤ a) -ℤ pos x *ℤ g -ℤ pos l *ℤ (pos e *ℤ b) -ℤ pos x *ℤ (pos e *ℤ (pos l *ℤ u))
drive_is l x e a b g u =
    let first = *ℤ--ℤ (pos x) (pos l *ℤ a) g in
    let first_turned = *ℤ_left_comm (pos x) (pos l) a in
    let second = ap (λ z. pos e *ℤ z) (*ℤ-+ℤ (pos l) b (pos x *ℤ u)) in
    let second_split = *ℤ-+ℤ (pos e) (pos l *ℤ b) (pos l *ℤ (pos x *ℤ u)) in
    let second_turned = *ℤ_left_comm (pos e) (pos l) b in
    let volt = ap (λ z. pos e *ℤ z) (*ℤ_left_comm (pos l) (pos x) u) ∙ *ℤ_left_comm (pos e) (pos x) (pos l *ℤ u) in
    omega (arith, linear)

-- the same of the node's height
height_is : (l x e : ℕ) (a b : ℤ) → pos l *ℤ less x e (a +ℤ pos (39 * e)) b ≡ pos l *ℤ (pos x *ℤ a) +ℤ pos x *ℤ pos (39 * e * l) -ℤ pos l *ℤ (pos e *ℤ b)
height_is l x e a b =
    let sum = *ℤ-+ℤ (pos x) a (pos (39 * e)) in
    let left = ap (λ z. pos l *ℤ (z -ℤ pos e *ℤ b)) sum in
    let split = *ℤ--ℤ (pos l) (pos x *ℤ a +ℤ pos x *ℤ pos (39 * e)) (pos e *ℤ b) in
    let split_sum = *ℤ-+ℤ (pos l) (pos x *ℤ a) (pos x *ℤ pos (39 * e)) in
    let number : l * (x * (39 * e)) ≡ x * (39 * e * l) = omega arith in
    let constant : pos l *ℤ (pos x *ℤ pos (39 * e)) ≡ pos x *ℤ pos (39 * e * l) = ap pos number in
    omega (arith, linear)

-- a voltage that is bounded so, times x
volt_times : (l x e : ℕ) (g u : ℤ) → (pos e *ℤ (pos l *ℤ neg_ℤ u)) ≤ℤ (g +ℤ pos (39 * e * l)) →
    neg_ℤ (pos x *ℤ (pos e *ℤ (pos l *ℤ u))) ≤ℤ (pos x *ℤ g +ℤ pos x *ℤ pos (39 * e * l))
volt_times l x e g u bound =
    let scaled = *ℤ-≤ℤ x (pos e *ℤ (pos l *ℤ neg_ℤ u)) (g +ℤ pos (39 * e * l)) bound in
    let split = *ℤ-+ℤ (pos x) g (pos (39 * e * l)) in
    let minus = ap (λ z. pos x *ℤ (pos e *ℤ z)) (*ℤ-neg_ℤ (pos l) u) ∙ ap (λ z. pos x *ℤ z) (*ℤ-neg_ℤ (pos e) (pos l *ℤ u)) ∙ *ℤ-neg_ℤ (pos x) (pos e *ℤ (pos l *ℤ u)) in
    omega (arith, linear)

-- where the height is below 0 so is the drive
drive_below : (l x e : ℕ) (a b g u : ℤ) → 0 < l → (pos e *ℤ (pos l *ℤ neg_ℤ u)) ≤ℤ (g +ℤ pos (39 * e * l)) → less x e (a +ℤ pos (39 * e)) b <ℤ pos 0 →
    drive l x e a b g u <ℤ pos 0
drive_below l x e a b g u some bound below =
    let is = drive_is l x e a b g u in
    let volt = volt_times l x e g u bound in
    let height = height_is l x e a b in
    let scaled = *ℤ-≤ℤ l (less x e (a +ℤ pos (39 * e)) b) (negsuc 0) (omega (arith, linear)) in
    let turned : pos l *ℤ negsuc 0 ≡ neg_ℤ (pos l *ℤ pos 1) = *ℤ-neg_ℤ (pos l) (pos 1) in
    let one : pos l *ℤ pos 1 ≡ pos l = omega (arith, linear) in
    omega (arith, linear)

module _ (nodes : ℕ) (standing : List Placed) (within : AllByRecursion (λ p. IsElementWithin nodes p.1) standing) (earthed : AreEarthed standing)
    (ranges : Ranges) (e : ℕ) (potential high volts : ℕ → ℤ) (exact lift : Solution)
    (inside : AreInRanges ranges (λ x. (ranges x).least) standing) (modest : AreModest ranges standing)
    (bound : (k : ℕ) → IsLive standing k → (high k *ℤ pos e) ≤ℤ (potential k +ℤ pos (2 * e))) (are : AreLiftVolts standing ranges high volts)
    (lifts : IsExactLift standing ranges (heights potential) exact) (solves : SolvesWith standing (λ x. (ranges x).most) volts lift) where
  -- what is known of one element
  record Known (p : Placed) : Type 0 where
    within_limits : IsElementWithin nodes p.1
    ends : (m : ℕ) → ends_at p.1 m ≡ true → is_live standing m ≡ true
    in_range : is_ground p.1 ≡ true → IsInRange (ranges p.1) (ranges p.1).least
    is_modest : is_ground p.1 ≡ true → (ranges p.1).most ≤ 20 * (ranges p.1).least
    volt : volts p.0 ≡ cond (is_ground p.1) (lift_volt (ranges p.1) (high p.1.from.0)) (pos 0)
    by_lift : IsOhm volts lift (placed_with (λ x. (ranges x).most) p)
    by_exact : is_ground p.1 ≡ false → IsOhm (λ place. pos 0) exact p
    at_exact : is_ground p.1 ≡ true → IsLiftedGround ranges (heights potential) exact p

  known : AllByRecursion Known standing
  known = gather standing within (ends_live standing)
      (recursion_from_All (λ p. is_ground p.1 ≡ true → IsInRange (ranges p.1) (ranges p.1).least) standing inside)
      (recursion_from_All (λ p. is_ground p.1 ≡ true → (ranges p.1).most ≤ 20 * (ranges p.1).least) standing modest)
      (recursion_from_All (λ p. volts p.0 ≡ cond (is_ground p.1) (lift_volt (ranges p.1) (high p.1.from.0)) (pos 0)) standing are)
      solves.by_ohm
      (recursion_from_All (λ p. is_ground p.1 ≡ false → IsOhm (λ place. pos 0) exact p) standing lifts.ohm)
      (recursion_from_All (λ p. is_ground p.1 ≡ true → IsLiftedGround ranges (heights potential) exact p) standing lifts.grounds)
    where
      gather : (ps : List Placed) → AllByRecursion (λ p. IsElementWithin nodes p.1) ps → AllByRecursion (λ p. (m : ℕ) → ends_at p.1 m ≡ true → is_live standing m ≡ true) ps →
          AllByRecursion (λ p. is_ground p.1 ≡ true → IsInRange (ranges p.1) (ranges p.1).least) ps →
          AllByRecursion (λ p. is_ground p.1 ≡ true → (ranges p.1).most ≤ 20 * (ranges p.1).least) ps →
          AllByRecursion (λ p. volts p.0 ≡ cond (is_ground p.1) (lift_volt (ranges p.1) (high p.1.from.0)) (pos 0)) ps →
          AllByRecursion (λ p. IsOhm volts lift (placed_with (λ x. (ranges x).most) p)) ps → AllByRecursion (λ p. is_ground p.1 ≡ false → IsOhm (λ place. pos 0) exact p) ps →
          AllByRecursion (λ p. is_ground p.1 ≡ true → IsLiftedGround ranges (heights potential) exact p) ps → AllByRecursion Known ps
      gather [] a b c d f g h i = tt
      gather (p ∷ ps) a b c d f g h i = (
        record {
          within_limits = a.0;
          ends = b.0;
          in_range = c.0;
          is_modest = d.0;
          volt = f.0;
          by_lift = g.0;
          by_exact = h.0;
          at_exact = i.0;
        },
        gather ps a.1 b.1 c.1 d.1 f.1 g.1 h.1 i.1,
      )

  -- at a ground the voltage is the lift's, else there is none
  own_volt : (p : Placed) → Known p → is_ground p.1 ≡ true → volts p.0 ≡ lift_volt (ranges p.1) (high p.1.from.0)
  own_volt p h ground = h.volt ∙ ap (λ b. cond b (lift_volt (ranges p.1) (high p.1.from.0)) (pos 0)) ground

  not_above : (p : Placed) → Known p → is_ground p.1 ≡ true → volts p.0 ≤ℤ pos 0
  not_above p h ground =
      let is = own_volt p h ground in
      let top = high p.1.from.0 in
      let made = (lift_lifts (ranges p.1) top (top *ℤ pos 1) 1 (h.in_range ground) (omega (arith, linear))).not_above_0 in
      omega (arith, linear)

  lift_ohm : (p : Placed) → Known p → is_ground p.1 ≡ false →
      pos p.1.micro_ohm *ℤ lift.current p.0 ≡ pos (micro_paths p) *ℤ (lift.potential p.1.from.0 -ℤ value_at lift.potential p.1.to)
  lift_ohm p h other =
      no_volt (pos (micro_paths p)) (lift.potential p.1.from.0) (value_at lift.potential p.1.to) (pos lift.denominator) (volts p.0) (pos p.1.micro_ohm) (lift.current p.0)
      (h.volt ∙ ap (λ b. cond b (lift_volt (ranges p.1) (high p.1.from.0)) (pos 0)) other) (own_ohm (λ x. (ranges x).most) volts lift p other h.by_lift)

  lift_ground : (p : Placed) → Known p → is_ground p.1 ≡ true →
      pos (ranges p.1).most *ℤ lift.current p.0 ≡ pos (micro_paths p) *ℤ (lift.potential p.1.from.0 +ℤ pos lift.denominator *ℤ volts p.0)
  lift_ground p h ground = ground_with_volt (λ x. (ranges x).most) volts lift p ground h.by_lift

  some_paths : (p : Placed) → Known p → 0 < micro_paths p
  some_paths p h = let some = some_times nodes p h.within_limits in omega arith

  -- the solved lift lowers no node
  lift_above : (k : ℕ) → IsLive standing k → pos 0 ≤ℤ lift.potential k
  lift_above =
      none_lower nodes standing within earthed lift.potential lift.current solves.kirchhoff
      (weaker Known (λ p. IsFlow lift.potential lift.current p × IsBringing lift.potential lift.current p) (λ p h. (lift_ohm p h, brings p h)) standing known)
    where
      brings : (p : Placed) → Known p → IsBringing lift.potential lift.current p
      brings p h ground below =
          let range = h.in_range ground in
          let positive : 0 < (ranges p.1).most = let above = range.above_0 in let most = range.at_most in omega arith in
          lift_below (ranges p.1).most (micro_paths p) lift.denominator (lift.current p.0) (lift.potential p.1.from.0) (volts p.0) positive (some_paths p h)
          (lift_ground p h ground) (not_above p h ground) below

  -- the exact lift, raised by 39 units, less the solved one
  abbrev height : ℕ → ℤ
  height m = less lift.denominator e (exact.potential m +ℤ pos (39 * e)) (lift.potential m)

  abbrev flow : ℕ → ℤ
  flow place = less lift.denominator e (exact.current place) (lift.current place)

  no_flow : (k : ℕ) → IsLive standing k → sum_of (λ p. leaving k p.1 (flow p.0)) (elements_at standing k) ≡ pos 0
  no_flow k live =
      sum_of_less lift.denominator e k exact.current lift.current (elements_at standing k) ∙
      none_less lift.denominator e _ _ (lifts.kirchhoff k live) (solves.kirchhoff k live)

  flow_ohm : (p : Placed) → Known p → IsFlow height flow p
  flow_ohm p h other =
      let from = p.1.from.0 in
      let law = no_volt (pos (micro_paths p)) (exact.potential from) (value_at exact.potential p.1.to) (pos exact.denominator) (pos 0) (pos p.1.micro_ohm) (exact.current p.0) refl (h.by_exact other) in
      ohm_of_less (pos p.1.micro_ohm) (pos (micro_paths p)) lift.denominator e (exact.current p.0) (lift.current p.0)
      (exact.potential from -ℤ value_at exact.potential p.1.to) (lift.potential from -ℤ value_at lift.potential p.1.to) law (lift_ohm p h other) ∙
      ap (λ z. pos (micro_paths p) *ℤ z) (raised_fall lift.denominator e (pos (39 * e)) exact.potential lift.potential from p.1.to other)

  flow_brings : (p : Placed) → Known p → IsBringing height flow p
  flow_brings p h ground below =
      let range = ranges p.1 in
      let from = p.1.from.0 in
      let g = pos (range.most - range.least) *ℤ heights potential from in
      below_from (range.least * range.most) (micro_paths p) (flow p.0) (drive range.least lift.denominator e (exact.potential from) (lift.potential from) g (volts p.0)) (some_paths p h)
      (drive_times range.least range.most (micro_paths p) lift.denominator e (exact.current p.0) (lift.current p.0) (exact.potential from) (lift.potential from) g (volts p.0)
      (h.at_exact ground) (lift_ground p h ground))
      (drive_below range.least lift.denominator e (exact.potential from) (lift.potential from) g (volts p.0) (h.in_range ground).above_0
      (volt_bound range e (high from) (potential from) (volts p.0) (h.in_range ground) (h.is_modest ground) (bound from (from_own p.1 (is_live standing) h.ends)) (own_volt p h ground)) below)

  -- so it is nowhere below
  lift_near : (k : ℕ) → IsLive standing k → pos 0 ≤ℤ height k
  lift_near =
      none_lower nodes standing within earthed height flow no_flow
      (weaker Known (λ p. IsFlow height flow p × IsBringing height flow p) (λ p h. (flow_ohm p h, flow_brings p h)) standing known)

-- products in another order
turned_product : (x e : ℕ) (a : ℤ) → pos e *ℤ (a *ℤ pos (1 * x)) ≡ pos x *ℤ (a *ℤ pos e)
turned_product x e a = same_in _ _ (simp (up-*ℤ, down-*ℤ) (omega arith))

-- over plain numbers: an end near the solved lift y is near the exact one
near_exact : (x e : ℕ) (a y end : ℤ) → 0 < x → (end *ℤ pos (1 * x)) ≤ℤ (y +ℤ pos (2 * 1 * x)) → pos 0 ≤ℤ less x e (a +ℤ pos (39 * e)) y → (end *ℤ pos e) ≤ℤ (a +ℤ pos (41 * e))
near_exact x e a y end some near above =
    let scaled = *ℤ-≤ℤ e (end *ℤ pos (1 * x)) (y +ℤ pos (2 * 1 * x)) near in
    let turned = turned_product x e end in
    let split = *ℤ-+ℤ (pos e) y (pos (2 * 1 * x)) in
    let sum = *ℤ-+ℤ (pos x) a (pos (39 * e)) in
    let whole = *ℤ-+ℤ (pos x) a (pos (41 * e)) in
    let number : x * (39 * e) + e * (2 * 1 * x) ≡ x * (41 * e) = omega arith in
    let one : pos e *ℤ pos (2 * 1 * x) ≡ pos (e * (2 * 1 * x)) = refl in
    let two : pos x *ℤ pos (39 * e) ≡ pos (x * (39 * e)) = refl in
    let three : pos x *ℤ pos (41 * e) ≡ pos (x * (41 * e)) = refl in
    ≤ℤ-from_*ℤ x (end *ℤ pos e) (a +ℤ pos (41 * e)) some (omega (arith, linear))

-- an end that is no less than a number that is not below 0
end_not_below : (x : ℕ) (y end : ℤ) → 0 < x → pos 0 ≤ℤ y → y ≤ℤ (end *ℤ pos (1 * x)) → pos 0 ≤ℤ end
end_not_below x y end some above at_most =
    let number : 1 * x ≡ x = omega arith in
    let turned : end *ℤ pos (1 * x) ≡ pos x *ℤ end = ap (λ (n : ℕ). end *ℤ pos n) number ∙ *ℤ_comm end (pos x) in
    let none = *ℤ-zero (pos x) in
    ≤ℤ-from_*ℤ x (pos 0) end some (omega (arith, linear))

-- the high end of a lift's interval: near the exact lift, and not below 0
record IsNearLift (e : ℕ) (exact end : ℤ) : Type 0 where
  near : (end *ℤ pos e) ≤ℤ (exact +ℤ pos (41 * e))
  above : pos 0 ≤ℤ end

lift_end : (network : Network) (stands : Item → Bool) (ranges : Ranges) (e : ℕ) (potential high volts : ℕ → ℤ) (exact : Solution) (ends : ℕ → Ends) →
    IsWithinLimits network → IsWithinLimits (with_most ranges network) → AreEarthed (standing_elements network stands) →
    AreInRanges ranges (λ x. (ranges x).least) (standing_elements network stands) → AreModest ranges (standing_elements network stands) →
    ((k : ℕ) → IsLive (standing_elements network stands) k → (high k *ℤ pos e) ≤ℤ (potential k +ℤ pos (2 * e))) →
    AreLiftVolts (standing_elements network stands) ranges high volts → IsExactLift (standing_elements network stands) ranges (heights potential) exact →
    HoldPotentials (standing_elements (with_most ranges network) stands) volts 1 ends → AreNear (standing_elements (with_most ranges network) stands) volts 1 ends →
    (k : ℕ) → IsLive (standing_elements network stands) k → IsNearLift e (exact.potential k) (ends k).high
lift_end network stands ranges e potential high volts exact ends limits most_limits earthed inside modest bound are lifts holds near k live =
    by (exists_in (with_most ranges network) stands volts most_limits (earthed_with network stands (λ x. (ranges x).most) earthed))
  where
    by : HasSolution (standing_elements (with_most ranges network) stands) volts → IsNearLift e (exact.potential k) (ends k).high
    by found =
        let lift = found.solution in
        let standing = standing_elements network stands in
        let within = standing_within network stands limits in
        let alive = live_in network stands (λ x. (ranges x).most) k live in
        let solves = solves_with network stands (λ x. (ranges x).most) volts lift found.solves in
        record {
          near = near_exact lift.denominator e (exact.potential k) (lift.potential k) (ends k).high found.solves.denominator_above_0 (near lift found.solves k alive).high
              (lift_near network.nodes standing within earthed ranges e potential high volts exact lift inside modest bound are lifts solves k live);
          above = end_not_below lift.denominator (lift.potential k) (ends k).high found.solves.denominator_above_0
              (lift_above network.nodes standing within earthed ranges e potential high volts exact lift inside modest bound are lifts solves k live) (holds lift found.solves k alive).below_hi;
        }

-- over plain numbers: how near the ends of the reference are, in the form that the lifts take them
high_bound : (u d : ℕ) (p end : ℤ) → (end *ℤ pos (u * d)) ≤ℤ (p +ℤ pos (2 * u * d)) → (end *ℤ pos (u * d)) ≤ℤ (p +ℤ pos (2 * (u * d)))
high_bound u d p end h = let number : 2 * u * d ≡ 2 * (u * d) = omega arith in omega (arith, linear)

low_bound : (u d : ℕ) (p end : ℤ) → (p -ℤ pos (2 * u * d)) ≤ℤ (end *ℤ pos (u * d)) → (neg_ℤ end *ℤ pos (u * d)) ≤ℤ (neg_ℤ p +ℤ pos (2 * (u * d)))
low_bound u d p end h =
    let number : 2 * u * d ≡ 2 * (u * d) = omega arith in
    let turned : neg_ℤ end *ℤ pos (u * d) ≡ neg_ℤ (end *ℤ pos (u * d)) = *ℤ_comm (neg_ℤ end) (pos (u * d)) ∙ *ℤ-neg_ℤ (pos (u * d)) end ∙ ap neg_ℤ (*ℤ_comm (pos (u * d)) end) in
    omega (arith, linear)

-- both together
high_end : (u d : ℕ) (p x end lift : ℤ) → (end *ℤ pos (u * d)) ≤ℤ (p +ℤ pos (2 * u * d)) → (lift *ℤ pos (u * d)) ≤ℤ (x +ℤ pos (41 * (u * d))) →
    ((end +ℤ lift) *ℤ pos (u * d)) ≤ℤ ((p +ℤ x) +ℤ pos (43 * u * d))
high_end u d p x end lift one other =
    let number : 2 * u * d + 41 * (u * d) ≡ 43 * u * d = omega arith in
    let turned = *ℤ_comm (end +ℤ lift) (pos (u * d)) in
    let split = *ℤ-+ℤ (pos (u * d)) end lift in
    let first = *ℤ_comm end (pos (u * d)) in
    let second = *ℤ_comm lift (pos (u * d)) in
    omega (arith, linear)

low_end : (u d : ℕ) (p x end lift : ℤ) → (p -ℤ pos (2 * u * d)) ≤ℤ (end *ℤ pos (u * d)) → (lift *ℤ pos (u * d)) ≤ℤ (x +ℤ pos (41 * (u * d))) →
    ((p -ℤ x) -ℤ pos (43 * u * d)) ≤ℤ ((end -ℤ lift) *ℤ pos (u * d))
low_end u d p x end lift one other =
    let number : 2 * u * d + 41 * (u * d) ≡ 43 * u * d = omega arith in
    let turned = *ℤ_comm (end -ℤ lift) (pos (u * d)) in
    let split = *ℤ--ℤ (pos (u * d)) end lift in
    let first = *ℤ_comm end (pos (u * d)) in
    let second = *ℤ_comm lift (pos (u * d)) in
    omega (arith, linear)

-- the ends of the reference are in order, and lifts that are not below 0 leave them so
ends_order : (n : ℕ) (p low high lowering raising : ℤ) → 0 < n → Encloses low high p n → pos 0 ≤ℤ lowering → pos 0 ≤ℤ raising → (low -ℤ lowering) ≤ℤ (high +ℤ raising)
ends_order n p low high lowering raising some holds below above =
    let first = *ℤ_comm low (pos n) in
    let second = *ℤ_comm high (pos n) in
    let from = holds.above_lo in
    let to = holds.below_hi in
    let order = ≤ℤ-from_*ℤ n low high some (omega (arith, linear)) in
    omega (arith, linear)

-- an interval of a varied potential ends at most 43 units beyond the exact ends, which are over the denominator d, and has its low end first
pub record IsNearVaried (unit d : ℕ) (exact varied : Ends) : Type 0 where
  pub low : (exact.low -ℤ pos (43 * unit * d)) ≤ℤ (varied.low *ℤ pos (unit * d))
  pub high : (varied.high *ℤ pos (unit * d)) ≤ℤ (exact.high +ℤ pos (43 * unit * d))
  pub order : varied.low ≤ℤ varied.high

pub varied_near : (network : Network) (stands : Item → Bool) (ranges : Ranges) (given : Voltages) (units : Units) (ends : Intervals) (exact : ExactSolutions) →
    IsWithinLimits network → IsWithinLimits (with_most ranges network) → AreEarthed (standing_elements network stands) →
    AreInRanges ranges (λ e. (ranges e).least) (standing_elements network stands) → AreModest ranges (standing_elements network stands) → 0 < units.potential →
    AreCertified network stands ranges all_least given units ends → AreAllNear network stands ranges given units ends → AreExact network stands ranges given.field given.weights exact →
    (k : ℕ) → IsLive (standing_elements network stands) k →
    IsNearVaried units.potential exact.reference.denominator (exact_ends exact k) (varied_ends (ends.reference k) (ends.lowering k) (ends.raising k))
varied_near network stands ranges given units ends exact limits most_limits earthed inside modest some certified near are k live =
    let u = units.potential in
    let d = exact.reference.denominator in
    let reference = exact.reference in
    let own = λ (m : ℕ) (alive : IsLive (standing_elements network stands) m). near.reference reference are.refers m (live_in network stands (λ x. (ranges x).least) m alive) in
    let raising = lift_end network stands ranges (u * d) reference.potential (λ m. (ends.reference m).high) given.raising exact.raising ends.raising limits most_limits earthed inside modest
    (λ m alive. high_bound u d (reference.potential m) (ends.reference m).high (own m alive).high) certified.raising_volts are.raises certified.raising near.raising k live in
    let lowering = lift_end network stands ranges (u * d) (λ m. neg_ℤ (reference.potential m)) (λ m. neg_ℤ (ends.reference m).low) given.lowering exact.lowering ends.lowering limits most_limits earthed inside modest
    (λ m alive. low_bound u d (reference.potential m) (ends.reference m).low (own m alive).low) certified.lowering_volts are.lowers certified.lowering near.lowering k live in
    record {
      low = low_end u d (reference.potential k) (exact.lowering.potential k) (ends.reference k).low (ends.lowering k).high (own k live).low lowering.near;
      high = high_end u d (reference.potential k) (exact.raising.potential k) (ends.reference k).high (ends.raising k).high (own k live).high raising.near;
      order = ends_order (u * d) (reference.potential k) (ends.reference k).low (ends.reference k).high (ends.lowering k).high (ends.raising k).high
          (positive_product u d some are.refers.denominator_above_0) (certified.reference reference are.refers k (live_in network stands (λ x. (ranges x).least) k live)) lowering.above raising.above;
    }
