-- At a ground: where a varied potential is above the reference and the lift together, its current to earth is greater than both of theirs.
use Rattle.std.proofs.Common.{◌≡◌, ℕ, ◌*◌, ◌<◌, ◌≤◌, inl, inr, ℤ, pos, negsuc, ◌+ℤ◌, ◌-ℤ◌, ◌*ℤ◌, neg_ℤ, ◌≤ℤ◌, ◌<ℤ◌, arith, refl, ap, ◌∙◌}
use lib.IntN.{*ℤ_comm, *ℤ-zero}
use borrow.Author.Differences.{same_in}
use Rattle.std.proofs.lemmas.Int.{by_lt_z}
use Rattle.std.proofs.Math.Nat.{mul-le-mul_right}
use Rattle.gic_fixed.proofs.Divisions.{positive_product}
use Rattle.gic_fixed.proofs.Integers.{linear, up-*ℤ, down-*ℤ, *ℤ-≤ℤ, *ℤ-+ℤ, *ℤ--ℤ, *ℤ-neg_ℤ, *ℤ_left_comm}
use Rattle.gic_varied.specs.Ranges.{Range, IsInRange}
use Rattle.gic_varied.specs.Varied.{IsOhmWithin}
use Rattle.gic_varied.specs.Lifts.{IsLift}
use Rattle.gic_varied.proofs.Threes.{three, dist}

-- over plain numbers, with currents i, j and c, and drives p, x (with the voltage v) and q: the varied current leaves
up_hill : (r m : ℕ) (i j c p x v q : ℤ) → 0 < r → pos r *ℤ i ≡ p → pos m *ℤ j ≡ x +ℤ v → q ≤ℤ (pos m *ℤ c) →
    (pos m *ℤ p) ≤ℤ (pos r *ℤ p -ℤ pos r *ℤ v) → (p +ℤ x +ℤ pos 1) ≤ℤ q → (i +ℤ j) <ℤ c
up_hill r m i j c p x v q some first second above enough higher = by_lt_z (i +ℤ j) c (λ less. less) (λ more. absurd (never more))
  where
    never : c ≤ℤ (i +ℤ j) → ⊥
    never more =
        let scaled = *ℤ-≤ℤ m c (i +ℤ j) more in
        let split = *ℤ-+ℤ (pos m) i j in
        let at_most : q ≤ℤ (pos m *ℤ i +ℤ (x +ℤ v)) = omega (arith, linear) in
        let again = *ℤ-≤ℤ r q (pos m *ℤ i +ℤ (x +ℤ v)) at_most in
        let split_again = *ℤ-+ℤ (pos r) (pos m *ℤ i) (x +ℤ v) in
        let split_last = *ℤ-+ℤ (pos r) x v in
        let turned = *ℤ_left_comm (pos r) (pos m) i ∙ ap (λ z. pos m *ℤ z) first in
        let strict = *ℤ-≤ℤ r (p +ℤ x +ℤ pos 1) q higher in
        let strict_split = *ℤ-+ℤ (pos r) (p +ℤ x) (pos 1) in
        let strict_sum = *ℤ-+ℤ (pos r) p x in
        let one : pos r *ℤ pos 1 ≡ pos r = omega (arith, linear) in
        omega (arith, linear)

-- a greater factor of a number that is not below 0
pub factor_order : (a b : ℕ) (z : ℤ) → a ≤ b → pos 0 ≤ℤ z → (pos a *ℤ z) ≤ℤ (pos b *ℤ z)
factor_order a b (pos n) h above = let order = mul-le-mul_right n h in omega (arith, linear)
factor_order a b (negsuc n) h above = absurd (omega (arith, linear))

-- the varied current enters
down_hill : (l r m : ℕ) (i j c p x v q : ℤ) → 0 < r * m → l ≤ m → pos 0 ≤ℤ x → pos r *ℤ i ≡ p → pos m *ℤ j ≡ x +ℤ v → q ≤ℤ (pos l *ℤ c) →
    (pos m *ℤ (pos l *ℤ p)) ≤ℤ (pos m *ℤ (pos r *ℤ p) -ℤ pos r *ℤ (pos l *ℤ v)) → (p +ℤ x +ℤ pos 1) ≤ℤ q → (i +ℤ j) <ℤ c
down_hill l r m i j c p x v q some within lifted first second above enough higher = by_lt_z (i +ℤ j) c (λ less. less) (λ more. absurd (never more))
  where
    never : c ≤ℤ (i +ℤ j) → ⊥
    never more =
        let scaled = *ℤ-≤ℤ l c (i +ℤ j) more in
        let split = *ℤ-+ℤ (pos l) i j in
        let at_most : q ≤ℤ (pos l *ℤ i +ℤ pos l *ℤ j) = omega (arith, linear) in
        let again = *ℤ-≤ℤ m q (pos l *ℤ i +ℤ pos l *ℤ j) at_most in
        let split_again = *ℤ-+ℤ (pos m) (pos l *ℤ i) (pos l *ℤ j) in
        let lift : pos m *ℤ (pos l *ℤ j) ≡ pos l *ℤ x +ℤ pos l *ℤ v = *ℤ_left_comm (pos m) (pos l) j ∙ ap (λ z. pos l *ℤ z) second ∙ *ℤ-+ℤ (pos l) x v in
        let at_most_again : (pos m *ℤ q) ≤ℤ (pos m *ℤ (pos l *ℤ i) +ℤ (pos l *ℤ x +ℤ pos l *ℤ v)) = omega (arith, linear) in
        let last = *ℤ-≤ℤ r (pos m *ℤ q) (pos m *ℤ (pos l *ℤ i) +ℤ (pos l *ℤ x +ℤ pos l *ℤ v)) at_most_again in
        let split_last = *ℤ-+ℤ (pos r) (pos m *ℤ (pos l *ℤ i)) (pos l *ℤ x +ℤ pos l *ℤ v) in
        let split_lift = *ℤ-+ℤ (pos r) (pos l *ℤ x) (pos l *ℤ v) in
        let turned : pos r *ℤ (pos m *ℤ (pos l *ℤ i)) ≡ pos m *ℤ (pos l *ℤ p) =
        *ℤ_left_comm (pos r) (pos m) (pos l *ℤ i) ∙ ap (λ z. pos m *ℤ z) (*ℤ_left_comm (pos r) (pos l) i ∙ ap (λ z. pos l *ℤ z) first) in
        let wider : (pos l *ℤ x) ≤ℤ (pos m *ℤ x) = factor_order l m x within lifted in
        let wider_still = *ℤ-≤ℤ r (pos l *ℤ x) (pos m *ℤ x) wider in
        let strict = *ℤ-≤ℤ m (p +ℤ x +ℤ pos 1) q higher in
        let strict_split = *ℤ-+ℤ (pos m) (p +ℤ x) (pos 1) in
        let strict_sum = *ℤ-+ℤ (pos m) p x in
        let one : pos m *ℤ pos 1 ≡ pos m = omega (arith, linear) in
        let strict_again = *ℤ-≤ℤ r (pos m *ℤ p +ℤ pos m *ℤ x +ℤ pos m) (pos m *ℤ q) (omega (arith, linear)) in
        let strict_again_split = *ℤ-+ℤ (pos r) (pos m *ℤ p +ℤ pos m *ℤ x) (pos m) in
        let strict_again_sum = *ℤ-+ℤ (pos r) (pos m *ℤ p) (pos m *ℤ x) in
        let p_turned = *ℤ_left_comm (pos r) (pos m) p in
        let product : pos r *ℤ pos m ≡ pos (r * m) = refl in
        omega (arith, linear)

-- times two numbers
abbrev pub twice : ℕ → ℕ → ℤ → ℤ
twice w a z = pos w *ℤ (pos a *ℤ z)

-- a difference as a factor
pub minus_times : (a b : ℕ) (z : ℤ) → (pos a -ℤ pos b) *ℤ z ≡ pos a *ℤ z -ℤ pos b *ℤ z
minus_times a b z =
    let turned = *ℤ_comm (pos a -ℤ pos b) z in
    let split = *ℤ--ℤ z (pos a) (pos b) in
    let first = *ℤ_comm (pos a) z in
    let second = *ℤ_comm (pos b) z in
    omega (arith, linear)

-- products in another order
in_front : (w v x m : ℕ) (z : ℤ) → pos (w * (v * x)) *ℤ (pos m *ℤ z) ≡ pos m *ℤ (pos w *ℤ (pos (v * x) *ℤ z))
in_front w v x m z = same_in _ _ (simp (up-*ℤ, down-*ℤ) (omega arith))

in_front_twice : (w v x m l : ℕ) (z : ℤ) → pos (w * (v * x)) *ℤ (pos m *ℤ (pos l *ℤ z)) ≡ pos m *ℤ (pos l *ℤ (pos w *ℤ (pos (v * x) *ℤ z)))
in_front_twice w v x m l z = same_in _ _ (simp (up-*ℤ, down-*ℤ) (omega arith))

volt_in_front : (w v x d r : ℕ) (z : ℤ) → pos (w * (v * x)) *ℤ (pos (d * r) *ℤ z) ≡ pos r *ℤ (pos w *ℤ (pos (v * d) *ℤ (pos x *ℤ z)))
volt_in_front w v x d r z = same_in _ _ (simp (up-*ℤ, down-*ℤ) (omega arith))

volt_in_front_twice : (w v x d r l : ℕ) (z : ℤ) → pos (w * (v * x)) *ℤ (pos (d * r * l) *ℤ z) ≡ pos r *ℤ (pos l *ℤ (pos w *ℤ (pos (v * d) *ℤ (pos x *ℤ z))))
volt_in_front_twice w v x d r l z = same_in _ _ (simp (up-*ℤ, down-*ℤ) (omega arith))

-- what a lift makes up for, times W and brought to the common denominator
to_most : (w v x d r m : ℕ) (z u : ℤ) → ((pos m -ℤ pos r) *ℤ z) ≤ℤ (pos (d * r) *ℤ neg_ℤ u) →
    (pos m *ℤ (pos w *ℤ (pos (v * x) *ℤ z))) ≤ℤ (pos r *ℤ (pos w *ℤ (pos (v * x) *ℤ z)) -ℤ pos r *ℤ (pos w *ℤ (pos (v * d) *ℤ (pos x *ℤ u))))
to_most w v x d r m z u h =
    let k = w * (v * x) in
    let scaled = *ℤ-≤ℤ k ((pos m -ℤ pos r) *ℤ z) (pos (d * r) *ℤ neg_ℤ u) h in
    let left = ap (λ y. pos k *ℤ y) (minus_times m r z) in
    let split = *ℤ--ℤ (pos k) (pos m *ℤ z) (pos r *ℤ z) in
    let first = in_front w v x m z in
    let second = in_front w v x r z in
    let right = ap (λ y. pos k *ℤ y) (*ℤ-neg_ℤ (pos (d * r)) u) in
    let minus = *ℤ-neg_ℤ (pos k) (pos (d * r) *ℤ u) in
    let third = volt_in_front w v x d r u in
    omega (arith, linear)

to_least : (w v x d r m l : ℕ) (z u : ℤ) → (pos m *ℤ ((pos l -ℤ pos r) *ℤ z)) ≤ℤ (pos (d * r * l) *ℤ neg_ℤ u) →
    (pos m *ℤ (pos l *ℤ (pos w *ℤ (pos (v * x) *ℤ z)))) ≤ℤ
    (pos m *ℤ (pos r *ℤ (pos w *ℤ (pos (v * x) *ℤ z))) -ℤ pos r *ℤ (pos l *ℤ (pos w *ℤ (pos (v * d) *ℤ (pos x *ℤ u)))))
to_least w v x d r m l z u h =
    let k = w * (v * x) in
    let scaled = *ℤ-≤ℤ k (pos m *ℤ ((pos l -ℤ pos r) *ℤ z)) (pos (d * r * l) *ℤ neg_ℤ u) h in
    let left = ap (λ y. pos k *ℤ (pos m *ℤ y)) (minus_times l r z) in
    let inner = ap (λ y. pos k *ℤ y) (*ℤ--ℤ (pos m) (pos l *ℤ z) (pos r *ℤ z)) in
    let split = *ℤ--ℤ (pos k) (pos m *ℤ (pos l *ℤ z)) (pos m *ℤ (pos r *ℤ z)) in
    let first = in_front_twice w v x m l z in
    let second = in_front_twice w v x m r z in
    let right = ap (λ y. pos k *ℤ y) (*ℤ-neg_ℤ (pos (d * r * l)) u) in
    let minus = *ℤ-neg_ℤ (pos k) (pos (d * r * l) *ℤ u) in
    let third = volt_in_front_twice w v x d r l u in
    omega (arith, linear)

-- what a lift with the voltage u, whatever it is over, is to make up for at a ground of r micro-ohm: what one of the greatest and one of the least resistance takes less, times W and brought to the common denominator
pub record MakesUp (range : Range) (w r v x d : ℕ) (p u : ℤ) : Type 0 where
  pub to_most : (pos range.most *ℤ twice w (v * x) p) ≤ℤ (pos r *ℤ twice w (v * x) p -ℤ pos r *ℤ twice w (v * d) u)
  pub to_least : (pos range.most *ℤ (pos range.least *ℤ twice w (v * x) p)) ≤ℤ
      (pos range.most *ℤ (pos r *ℤ twice w (v * x) p) -ℤ pos r *ℤ (pos range.least *ℤ twice w (v * d) u))

-- the three at one ground, over their denominators d, x and v: where the varied potential is above the others, so is its current
pub ground_below_by : (range : Range) (w r v x d : ℕ) (i j c p y u q : ℤ) → 0 < w → IsInRange range r →
    pos r *ℤ i ≡ pos w *ℤ p → pos range.most *ℤ j ≡ pos w *ℤ (y +ℤ u) → IsOhmWithin range (pos w *ℤ q) c →
    MakesUp range w r v x d p u → pos 0 ≤ℤ y → three v x d p y q <ℤ pos 0 → three v x d i j c <ℤ pos 0
ground_below_by range w r v x d i j c p y u q some inside first second varies lift lifted below = by varies
  where
    some_ohm : 0 < r
    some_ohm = let above = inside.above_0 in let least = inside.at_least in omega arith

    some_most : 0 < range.most
    some_most = let above = some_ohm in let most = inside.at_most in omega arith

    by_first : pos r *ℤ (pos (v * x) *ℤ i) ≡ twice w (v * x) p
    by_first = *ℤ_left_comm (pos r) (pos (v * x)) i ∙ ap (λ z. pos (v * x) *ℤ z) first ∙ *ℤ_left_comm (pos (v * x)) (pos w) p

    by_second : pos range.most *ℤ (pos (v * d) *ℤ j) ≡ twice w (v * d) y +ℤ twice w (v * d) u
    by_second =
        *ℤ_left_comm (pos range.most) (pos (v * d)) j ∙ ap (λ z. pos (v * d) *ℤ z) second ∙ *ℤ_left_comm (pos (v * d)) (pos w) (y +ℤ u) ∙
        ap (λ z. pos w *ℤ z) (*ℤ-+ℤ (pos (v * d)) y u) ∙ *ℤ-+ℤ (pos w) (pos (v * d) *ℤ y) (pos (v * d) *ℤ u)

    at_most : (k : ℕ) → (pos w *ℤ q) ≤ℤ (pos k *ℤ c) → twice w (d * x) q ≤ℤ (pos k *ℤ (pos (d * x) *ℤ c))
    at_most k h =
        let scaled = *ℤ-≤ℤ (d * x) (pos w *ℤ q) (pos k *ℤ c) h in
        let left = *ℤ_left_comm (pos (d * x)) (pos w) q in
        let right = *ℤ_left_comm (pos (d * x)) (pos k) c in
        omega (arith, linear)

    higher : (twice w (v * x) p +ℤ twice w (v * d) y +ℤ pos 1) ≤ℤ twice w (d * x) q
    higher =
        let scaled = *ℤ-≤ℤ w (three v x d p y q) (negsuc 0) (omega (arith, linear)) in
        let split = dist (pos w) (pos (v * x) *ℤ p) (pos (v * d) *ℤ y) (pos (d * x) *ℤ q) in
        let turned : pos w *ℤ negsuc 0 ≡ neg_ℤ (pos w *ℤ pos 1) = *ℤ-neg_ℤ (pos w) (pos 1) in
        let one : pos w *ℤ pos 1 ≡ pos w = omega (arith, linear) in
        omega (arith, linear)

    not_below : pos 0 ≤ℤ twice w (v * d) y
    not_below =
        let inner = *ℤ-≤ℤ (v * d) (pos 0) y lifted in
        let none = *ℤ-zero (pos (v * d)) in
        let outer = *ℤ-≤ℤ w (pos 0) (pos (v * d) *ℤ y) (omega (arith, linear)) in
        let nothing = *ℤ-zero (pos w) in
        omega (arith, linear)

    less : (pos (v * x) *ℤ i +ℤ pos (v * d) *ℤ j) <ℤ (pos (d * x) *ℤ c) → three v x d i j c <ℤ pos 0
    less h = omega (arith, linear)

    by : IsOhmWithin range (pos w *ℤ q) c → three v x d i j c <ℤ pos 0
    by (inl h) =
        less (up_hill r range.most (pos (v * x) *ℤ i) (pos (v * d) *ℤ j) (pos (d * x) *ℤ c) (twice w (v * x) p) (twice w (v * d) y) (twice w (v * d) u) (twice w (d * x) q) some_ohm by_first by_second
        (at_most range.most h.2) lift.to_most higher)
    by (inr h) =
        less (down_hill range.least r range.most (pos (v * x) *ℤ i) (pos (v * d) *ℤ j) (pos (d * x) *ℤ c) (twice w (v * x) p) (twice w (v * d) y) (twice w (v * d) u) (twice w (d * x) q) (positive_product r range.most some_ohm some_most)
        (let least = inside.at_least in let most = inside.at_most in omega arith) not_below by_first by_second
        (at_most range.least h.2) lift.to_least higher)

-- by a lift of whole nanovolts
pub ground_below : (range : Range) (w r v x d : ℕ) (i j c p y u q : ℤ) → 0 < w → IsInRange range r →
    pos r *ℤ i ≡ pos w *ℤ p → pos range.most *ℤ j ≡ pos w *ℤ (y +ℤ pos x *ℤ u) → IsOhmWithin range (pos w *ℤ q) c →
    IsLift range r p d u → pos 0 ≤ℤ y → three v x d p y q <ℤ pos 0 → three v x d i j c <ℤ pos 0
ground_below range w r v x d i j c p y u q some inside first second varies lift =
    ground_below_by range w r v x d i j c p y (pos x *ℤ u) q some inside first second varies
    (record { to_most = to_most w v x d r range.most p u lift.to_most; to_least = to_least w v x d r range.most range.least p u lift.to_least })

-- a lift itself, where it is below 0: its ground only brings current
pub lift_below : (m w x : ℕ) (j y u : ℤ) → 0 < m → 0 < w → pos m *ℤ j ≡ pos w *ℤ (y +ℤ pos x *ℤ u) → u ≤ℤ pos 0 → y <ℤ pos 0 → j <ℤ pos 0
lift_below m w x j y u some some_paths ohm down below = by_lt_z j (pos 0) (λ less. less) (λ more. absurd (never more))
  where
    never : pos 0 ≤ℤ j → ⊥
    never more =
        let scaled = *ℤ-≤ℤ m (pos 0) j more in
        let none = *ℤ-zero (pos m) in
        let volt = *ℤ-≤ℤ x u (pos 0) down in
        let nothing = *ℤ-zero (pos x) in
        let driven = *ℤ-≤ℤ w (y +ℤ pos x *ℤ u) (negsuc 0) (omega (arith, linear)) in
        let turned : pos w *ℤ negsuc 0 ≡ neg_ℤ (pos w *ℤ pos 1) = *ℤ-neg_ℤ (pos w) (pos 1) in
        let one : pos w *ℤ pos 1 ≡ pos w = omega (arith, linear) in
        omega (arith, linear)
