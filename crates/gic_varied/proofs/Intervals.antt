-- Intervals of sums, of products and of varied potentials.
use Rattle.std.proofs.Common.{◌≡◌, ℕ, ◌-◌, ◌*◌, ◌<◌, ◌≤◌, List, [], ◌∷◌, ℤ, pos, ◌+ℤ◌, ◌-ℤ◌, ◌*ℤ◌, neg_ℤ, ◌≤ℤ◌, arith, ap, sym, subst, ◌∙◌}
use lib.IntN.{*ℤ_comm, *ℤ-zero}
use borrow.Author.Differences.{same_in}
use Rattle.std.specs.Int.{int_min, int_max}
use Rattle.std.specs.List.{AllByRecursion}
use Rattle.std.proofs.lemmas.Int.{ints, clamps}
use Rattle.gic_fixed.specs.Encloses.{Encloses}
use Rattle.gic_fixed.specs.Ends.{Ends}
use Rattle.gic_fixed.specs.Rounding.{ceil_div}
use Rattle.gic_fixed.specs.Sums.{sum_of}
use Rattle.gic_fixed.proofs.Integers.{linear, up-*ℤ, down-*ℤ, *ℤ-≤ℤ, ≤ℤ-from_*ℤ, *ℤ-+ℤ, *ℤ--ℤ, *ℤ-neg_ℤ, +ℤ-*ℤ, *ℤ_assoc}
use Rattle.gic_fixed.proofs.Divisions.{ceil_above, positive_product}
use Rattle.gic_fixed.proofs.Enclosures.{≤ℤ-times, Encloses-add, Encloses-scale, Encloses-outer}
use Rattle.gic_varied.specs.Ranges.{Range, IsInRange}
use Rattle.gic_varied.specs.Lifts.{IsLift, IsRaisedAtMost, IsLoweredAtMost}
use Rattle.gic_varied.specs.Enclosure.{lift_volt, product_ends, varied_ends}
use Rattle.gic_model.specs.Solution.{Solution}

-- the sum of fractions over one denominator
pub sum_encloses : {X : Type 0} (low high f : X → ℤ) (d : ℕ) (xs : List X) → AllByRecursion (λ x. Encloses (low x) (high x) (f x) d) xs → Encloses (sum_of low xs) (sum_of high xs) (sum_of f xs) d
sum_encloses low high f d [] h = record { above_lo = omega (arith, linear); below_hi = omega (arith, linear) }
sum_encloses low high f d (x ∷ xs) h = Encloses-add (low x) (high x) (f x) (sum_of low xs) (sum_of high xs) (sum_of f xs) d h.0 (sum_encloses low high f d xs h.1)

-- a product in another order
regrouped : (x : ℤ) (e d : ℕ) → x *ℤ pos (e * d) ≡ (x *ℤ pos d) *ℤ pos e
regrouped x e d = same_in _ _ (simp (up-*ℤ, down-*ℤ) (omega arith))

pub product_holds : (one other : Ends) (y p : ℤ) (e d : ℕ) → Encloses one.low one.high y e → Encloses other.low other.high p d →
    Encloses (product_ends one other).low (product_ends one other).high (y *ℤ p) (e * d)
product_holds one other y p e d holds also =
    let low = (product_ends one other).low in
    let high = (product_ends one other).high in
    let first = Encloses-scale one.low one.high y e p holds in
    let by_low = Encloses-scale other.low other.high p d one.low also in
    let by_high = Encloses-scale other.low other.high p d one.high also in
    let at_low = Encloses-outer _ _ low high (p *ℤ one.low) d (omega (arith, linear, clamps)) (omega (arith, linear, clamps)) by_low in
    let at_high = Encloses-outer _ _ low high (p *ℤ one.high) d (omega (arith, linear, clamps)) (omega (arith, linear, clamps)) by_high in
    let turned_low = *ℤ_comm p one.low in
    let turned_high = *ℤ_comm p one.high in
    let least = ≤ℤ-times (low *ℤ pos d) (int_min (one.low *ℤ p) (one.high *ℤ p)) e (omega (arith, linear, clamps, at_low.above_lo, at_high.above_lo)) in
    let greatest = ≤ℤ-times (int_max (one.low *ℤ p) (one.high *ℤ p)) (high *ℤ pos d) e (omega (arith, linear, clamps, at_low.below_hi, at_high.below_hi)) in
    let out_low = regrouped low e d in
    let out_high = regrouped high e d in
    record {
      above_lo = omega (arith, linear, first.above_lo);
      below_hi = omega (arith, linear, first.below_hi);
    }

-- products in another order
ends_in : (v x d u : ℕ) (a : ℤ) → pos v *ℤ (pos x *ℤ (a *ℤ pos (u * d))) ≡ pos (d * x) *ℤ (a *ℤ pos (u * v))
ends_in v x d u a = same_in _ _ (simp (up-*ℤ, down-*ℤ) (omega arith))

ends_turned : (v x d u : ℕ) (a : ℤ) → pos v *ℤ (pos d *ℤ (a *ℤ pos (u * x))) ≡ pos (d * x) *ℤ (a *ℤ pos (u * v))
ends_turned v x d u a = same_in _ _ (simp (up-*ℤ, down-*ℤ) (omega arith))

-- over plain numbers: below by at most a lift
pub lower_end : (d x v u : ℕ) (a b p q r : ℤ) → 0 < d → 0 < x → (pos v *ℤ (pos x *ℤ p -ℤ pos d *ℤ q)) ≤ℤ (pos (d * x) *ℤ r) →
    (a *ℤ pos (u * d)) ≤ℤ p → q ≤ℤ (b *ℤ pos (u * x)) → ((a -ℤ b) *ℤ pos (u * v)) ≤ℤ r
lower_end d x v u a b p q r some_d some_x lowered at_least at_most =
    let first = *ℤ-≤ℤ x (a *ℤ pos (u * d)) p at_least in
    let second = *ℤ-≤ℤ d q (b *ℤ pos (u * x)) at_most in
    let both = *ℤ-≤ℤ v (pos x *ℤ (a *ℤ pos (u * d)) -ℤ pos d *ℤ (b *ℤ pos (u * x))) (pos x *ℤ p -ℤ pos d *ℤ q) (omega (arith, linear)) in
    let left = *ℤ--ℤ (pos v) (pos x *ℤ (a *ℤ pos (u * d))) (pos d *ℤ (b *ℤ pos (u * x))) in
    let a_in = ends_in v x d u a in
    let b_in = ends_turned v x d u b in
    let difference = +ℤ-*ℤ a (neg_ℤ b) (pos (u * v)) in
    let minus : neg_ℤ b *ℤ pos (u * v) ≡ neg_ℤ (b *ℤ pos (u * v)) = *ℤ_comm (neg_ℤ b) (pos (u * v)) ∙ *ℤ-neg_ℤ (pos (u * v)) b ∙ ap neg_ℤ (*ℤ_comm (pos (u * v)) b) in
    let split = *ℤ--ℤ (pos (d * x)) (a *ℤ pos (u * v)) (b *ℤ pos (u * v)) in
    let whole = ≤ℤ-from_*ℤ (d * x) (a *ℤ pos (u * v) -ℤ b *ℤ pos (u * v)) r (positive_product d x some_d some_x) (omega (arith, linear)) in
    omega (arith, linear)

-- above by at most a lift
pub upper_end : (d x v u : ℕ) (a b p q r : ℤ) → 0 < d → 0 < x → (pos (d * x) *ℤ r) ≤ℤ (pos v *ℤ (pos x *ℤ p +ℤ pos d *ℤ q)) →
    p ≤ℤ (a *ℤ pos (u * d)) → q ≤ℤ (b *ℤ pos (u * x)) → r ≤ℤ ((a +ℤ b) *ℤ pos (u * v))
upper_end d x v u a b p q r some_d some_x raised at_most also =
    let first = *ℤ-≤ℤ x p (a *ℤ pos (u * d)) at_most in
    let second = *ℤ-≤ℤ d q (b *ℤ pos (u * x)) also in
    let both = *ℤ-≤ℤ v (pos x *ℤ p +ℤ pos d *ℤ q) (pos x *ℤ (a *ℤ pos (u * d)) +ℤ pos d *ℤ (b *ℤ pos (u * x))) (omega (arith, linear)) in
    let left = *ℤ-+ℤ (pos v) (pos x *ℤ (a *ℤ pos (u * d))) (pos d *ℤ (b *ℤ pos (u * x))) in
    let a_in = ends_in v x d u a in
    let b_in = ends_turned v x d u b in
    let sum = +ℤ-*ℤ a b (pos (u * v)) in
    let split = *ℤ-+ℤ (pos (d * x)) (a *ℤ pos (u * v)) (b *ℤ pos (u * v)) in
    let whole = ≤ℤ-from_*ℤ (d * x) r (a *ℤ pos (u * v) +ℤ b *ℤ pos (u * v)) (positive_product d x some_d some_x) (omega (arith, linear)) in
    omega (arith, linear)

pub varied_holds : (reference varied lowering raising : Solution) (k unit : ℕ) (own low high : Ends) →
    0 < reference.denominator → 0 < lowering.denominator → 0 < raising.denominator →
    IsLoweredAtMost varied reference lowering k → IsRaisedAtMost varied reference raising k →
    Encloses own.low own.high (reference.potential k) (unit * reference.denominator) →
    Encloses low.low low.high (lowering.potential k) (unit * lowering.denominator) →
    Encloses high.low high.high (raising.potential k) (unit * raising.denominator) →
    Encloses (varied_ends own low high).low (varied_ends own low high).high (varied.potential k) (unit * varied.denominator)
varied_holds reference varied lowering raising k unit own low high some some_low some_high lowered raised holds holds_low holds_high = record {
  above_lo = lower_end reference.denominator lowering.denominator varied.denominator unit own.low low.high (reference.potential k) (lowering.potential k) (varied.potential k) some some_low lowered holds.above_lo holds_low.below_hi;
  below_hi = upper_end reference.denominator raising.denominator varied.denominator unit own.high high.high (reference.potential k) (raising.potential k) (varied.potential k) some some_high raised holds.below_hi holds_high.below_hi;
}

-- products in another order
drive_in : (d k : ℕ) (z : ℤ) → pos d *ℤ (pos k *ℤ z) ≡ pos k *ℤ (z *ℤ pos d)
drive_in d k z = same_in _ _ (simp (up-*ℤ, down-*ℤ) (omega arith))

-- over plain numbers: a quotient rounded up makes up for the potential
makes_up : (l m d : ℕ) (high p q : ℤ) → 0 < l → l ≤ m → (pos (m - l) *ℤ int_max high (pos 0)) ≤ℤ (pos l *ℤ q) → p ≤ℤ (high *ℤ pos d) →
    (pos 0 ≤ℤ q) × (((pos m -ℤ pos l) *ℤ p) ≤ℤ (pos (d * l) *ℤ q))
makes_up l m d high p q some order above bound =
    let top = int_max high (pos 0) in
    let none = *ℤ-zero (pos (m - l)) in
    let nothing = *ℤ-zero (pos l) in
    let not_negative : pos 0 ≤ℤ top = omega (arith, linear, clamps) in
    let first = *ℤ-≤ℤ (m - l) (pos 0) top not_negative in
    let up_to = ≤ℤ-times high top d (omega (arith, linear, clamps)) in
    let second = *ℤ-≤ℤ (m - l) p (top *ℤ pos d) (omega (arith, linear)) in
    let drive = drive_in d (m - l) top in
    let third = *ℤ-≤ℤ d (pos (m - l) *ℤ top) (pos l *ℤ q) above in
    let lift : (pos d *ℤ pos l) *ℤ q ≡ pos d *ℤ (pos l *ℤ q) = *ℤ_assoc (pos d) (pos l) q in
    let difference : pos (m - l) ≡ pos m -ℤ pos l = omega (arith, ints) in
    let left = ap (λ z. z *ℤ p) difference in
    (≤ℤ-from_*ℤ l (pos 0) q some (omega (arith, linear)), omega (arith, linear))

minus_minus : (z : ℤ) → neg_ℤ (neg_ℤ z) ≡ z
minus_minus z = omega (arith, linear)

minus_not_above : (q : ℤ) → pos 0 ≤ℤ q → neg_ℤ q ≤ℤ pos 0
minus_not_above q h = omega (arith, linear)

pub nothing_least : (l m d : ℕ) (p q : ℤ) → pos 0 ≤ℤ q → (pos m *ℤ ((pos l -ℤ pos l) *ℤ p)) ≤ℤ (pos (d * l * l) *ℤ q)
nothing_least l m d p q h =
    let none : pos l -ℤ pos l ≡ pos 0 = omega (arith, linear) in
    let inner : (pos l -ℤ pos l) *ℤ p ≡ pos 0 = ap (λ z. z *ℤ p) none ∙ *ℤ_comm (pos 0) p ∙ *ℤ-zero p in
    let left = ap (λ z. pos m *ℤ z) inner ∙ *ℤ-zero (pos m) in
    let above = *ℤ-≤ℤ (d * l * l) (pos 0) q h in
    let nothing = *ℤ-zero (pos (d * l * l)) in
    omega (arith, linear)

-- the voltage of a lift lifts
pub lift_lifts : (range : Range) (high potential : ℤ) (denominator : ℕ) → IsInRange range range.least → potential ≤ℤ (high *ℤ pos denominator) →
    IsLift range range.least potential denominator (lift_volt range high)
lift_lifts range high potential denominator inside bound =
    let q = ceil_div (pos (range.most - range.least) *ℤ int_max high (pos 0)) (pos range.least) in
    let above = ceil_above (pos (range.most - range.least) *ℤ int_max high (pos 0)) range.least inside.above_0 in
    let made = makes_up range.least range.most denominator high potential q inside.above_0 inside.at_most above bound in
    let turned = sym (minus_minus q) in
    record {
      not_above_0 = minus_not_above q made.0;
      to_most = subst (λ (z : ℤ). ((pos range.most -ℤ pos range.least) *ℤ potential) ≤ℤ (pos (denominator * range.least) *ℤ z)) turned made.1;
      to_least = subst (λ (z : ℤ). (pos range.most *ℤ ((pos range.least -ℤ pos range.least) *ℤ potential)) ≤ℤ (pos (denominator * range.least * range.least) *ℤ z)) turned
          (nothing_least range.least range.most denominator potential q made.0);
    }

-- the differences of two numbers, each way, times a number with its sign turned
turned_in : (l m : ℕ) (p : ℤ) → (pos l -ℤ pos m) *ℤ p ≡ (pos m -ℤ pos l) *ℤ neg_ℤ p
turned_in l m p =
    let z = pos m -ℤ pos l in
    let minus : pos l -ℤ pos m ≡ neg_ℤ z = omega (arith, linear) in
    ap (λ y. y *ℤ p) minus ∙ *ℤ_comm (neg_ℤ z) p ∙ *ℤ-neg_ℤ p z ∙ ap neg_ℤ (*ℤ_comm p z) ∙ sym (*ℤ-neg_ℤ z p)

-- over plain numbers: what makes up towards the least resistance, times the greatest
pub makes_up_most : (l m d : ℕ) (p q : ℤ) → ((pos m -ℤ pos l) *ℤ neg_ℤ p) ≤ℤ (pos (d * l) *ℤ q) → (pos m *ℤ ((pos l -ℤ pos m) *ℤ p)) ≤ℤ (pos (d * m * l) *ℤ q)
makes_up_most l m d p q above =
    let turned = ap (λ z. pos m *ℤ z) (turned_in l m p) in
    let times = *ℤ-≤ℤ m ((pos m -ℤ pos l) *ℤ neg_ℤ p) (pos (d * l) *ℤ q) above in
    let regroup : pos m *ℤ (pos (d * l) *ℤ q) ≡ pos (d * m * l) *ℤ q = same_in _ _ (simp (up-*ℤ, down-*ℤ) (omega arith)) in
    omega (arith, linear)

pub nothing_most : (m d : ℕ) (p q : ℤ) → pos 0 ≤ℤ q → ((pos m -ℤ pos m) *ℤ p) ≤ℤ (pos (d * m) *ℤ q)
nothing_most m d p q h =
    let none : pos m -ℤ pos m ≡ pos 0 = omega (arith, linear) in
    let left : (pos m -ℤ pos m) *ℤ p ≡ pos 0 = ap (λ z. z *ℤ p) none ∙ *ℤ_comm (pos 0) p ∙ *ℤ-zero p in
    let above = *ℤ-≤ℤ (d * m) (pos 0) q h in
    let nothing = *ℤ-zero (pos (d * m)) in
    omega (arith, linear)

-- it lifts over a ground at its greatest resistance too, by how far the potential may be below 0
pub lift_lifts_at_most : (range : Range) (high potential : ℤ) (denominator : ℕ) → IsInRange range range.most → neg_ℤ potential ≤ℤ (high *ℤ pos denominator) →
    IsLift range range.most potential denominator (lift_volt range high)
lift_lifts_at_most range high potential denominator inside bound =
    let q = ceil_div (pos (range.most - range.least) *ℤ int_max high (pos 0)) (pos range.least) in
    let above = ceil_above (pos (range.most - range.least) *ℤ int_max high (pos 0)) range.least inside.above_0 in
    let made = makes_up range.least range.most denominator high (neg_ℤ potential) q inside.above_0 inside.at_least above bound in
    let turned = sym (minus_minus q) in
    record {
      not_above_0 = minus_not_above q made.0;
      to_most = subst (λ (z : ℤ). ((pos range.most -ℤ pos range.most) *ℤ potential) ≤ℤ (pos (denominator * range.most) *ℤ z)) turned
          (nothing_most range.most denominator potential q made.0);
      to_least = subst (λ (z : ℤ). (pos range.most *ℤ ((pos range.least -ℤ pos range.most) *ℤ potential)) ≤ℤ (pos (denominator * range.most * range.least) *ℤ z)) turned
          (makes_up_most range.least range.most denominator potential q made.1);
    }
