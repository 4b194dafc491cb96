-- The voltages alone push at most what the conductance carries at the greatest voltage, so no potential is far from 0.
use Rattle.std.proofs.Common.{◌≡◌, ℕ, ◌*◌, ◌^◌, ◌≤◌, ◌<◌, Bool, true, false, cond, ◌==◌, List, [], ◌∷◌, ℤ, pos, ◌+ℤ◌, ◌-ℤ◌, ◌*ℤ◌, neg_ℤ, ◌≤ℤ◌, unsigned_abs, arith, refl, ap}
use lib.IntN.{*ℤ_comm, *ℤ-zero}
use Rattle.std.specs.List.{AllByRecursion}
use Rattle.std.proofs.Math.Nat.{mul-le-mul_right, mul-le-mul_left, le_of_mul-le-mul_left}
use Rattle.std.proofs.lemmas.Int.{ints, unsigned_abs-mul}
use Rattle.gic_model.specs.declared.parts.End.{End}
use Rattle.gic_model.specs.declared.parts.End.TheVariants.{Node, Earth}
use Rattle.gic_model.specs.declared.parts.Element.{Element}
use Rattle.gic_model.specs.Limits.{IsElementWithin, most_volts, AreVolts}
use Rattle.gic_model.specs.Standing.{IsLive, elements_at, value_at, leaving}
use Rattle.gic_model.specs.Sums.{Placed}
use Rattle.gic_model.specs.Ohms.{sum_over_ohms}
use Rattle.gic_model.specs.Solution.{Solution, IsSolution}
use Rattle.gic_model.specs.Bound.{IsEarthedWithin}
use Rattle.gic_model.specs.Guess.{guessed_current, IsSettledWithin}
use Rattle.gic_fixed.proofs.Integers.{linear, *ℤ-≤ℤ, *ℤ-neg_ℤ}
use Rattle.gic_model.proofs.SumLaws.{sum_over_ohms-≤ℤ, sum_over_ohms-*ℤ, sum_over_ohms-neg_ℤ}
use Rattle.gic_model.proofs.Row.{weight}
use Rattle.gic_model.proofs.Conductance.{natural}
use Rattle.gic_model.proofs.Residual.{error}
use Rattle.gic_model.proofs.Certificate.{error_bound}

-- guesses of 0
abbrev pub no_guess : ℕ → ℤ
no_guess m = pos 0

pub no_guess-at : (t : End) → value_at no_guess t ≡ pos 0
no_guess-at (Node m) = refl
no_guess-at Earth = refl

-- either way, a product is at most that of the bounds
pub product_within : (w b : ℕ) (u : ℤ) → unsigned_abs u ≤ b → ((pos w *ℤ u) ≤ℤ (pos b *ℤ pos w)) × (neg_ℤ (pos w *ℤ u) ≤ℤ (pos b *ℤ pos w))
product_within w b u h =
    let above = *ℤ-≤ℤ w u (pos b) (omega (arith, ints)) in
    let below = *ℤ-≤ℤ w (neg_ℤ u) (pos b) (omega (arith, ints)) in
    let turned = *ℤ-neg_ℤ (pos w) u in
    let swapped = *ℤ_comm (pos b) (pos w) in
    (omega (arith, linear), omega (arith, linear))

pub leaving_within : (k : ℕ) (e : Element) (z b : ℤ) → z ≤ℤ b → neg_ℤ z ≤ℤ b → (leaving k e z ≤ℤ b) × (neg_ℤ (leaving k e z) ≤ℤ b)
leaving_within k e z b h g = by (e.from.0 == k)
  where
    by : (t : Bool) → (cond t z (neg_ℤ z) ≤ℤ b) × (neg_ℤ (cond t z (neg_ℤ z)) ≤ℤ b)
    by true = (h, g)
    by false = (g, omega (arith, ints))

-- parts that are at most what b carries, either way, add up to at most what the conductance carries at b
pub carried_within : (f : Placed → ℤ) (b : ℕ) (ps : List Placed) → AllByRecursion (λ p. f p ≤ℤ (pos b *ℤ weight p)) ps → AllByRecursion (λ p. neg_ℤ (f p) ≤ℤ (pos b *ℤ weight p)) ps →
    unsigned_abs (sum_over_ohms f ps) ≤ b * unsigned_abs (sum_over_ohms weight ps)
carried_within f b ps high low =
    let above = sum_over_ohms-≤ℤ f (λ p. pos b *ℤ weight p) ps high in
    let below = sum_over_ohms-≤ℤ (λ p. neg_ℤ (f p)) (λ p. pos b *ℤ weight p) ps low in
    let turned = sum_over_ohms-neg_ℤ f ps in
    let scaled = sum_over_ohms-*ℤ (pos b) weight ps in
    within (natural ps) (sum_over_ohms f ps) (omega (arith, linear)) (omega (arith, linear))
  where
    within : (g : ℕ) × (sum_over_ohms weight ps ≡ pos g) → (r : ℤ) → r ≤ℤ (pos b *ℤ sum_over_ohms weight ps) → neg_ℤ r ≤ℤ (pos b *ℤ sum_over_ohms weight ps) →
        unsigned_abs r ≤ b * unsigned_abs (sum_over_ohms weight ps)
    within (g, total) r high low =
        let size = ap (λ z. b * unsigned_abs z) total in
        let scaled = ap (λ z. pos b *ℤ z) total in
        let product : pos b *ℤ pos g ≡ pos (b * g) = refl in
        let plain : unsigned_abs r ≤ b * g = omega (arith, ints) in
        omega arith

module _ (volts : ℕ → ℤ) (limit : AreVolts volts) where
  -- what one element pushes
  push : (k : ℕ) (p : Placed) →
      (leaving k p.1 (guessed_current volts no_guess p) ≤ℤ (pos (2 ^ 36 * most_volts) *ℤ weight p)) ×
      (neg_ℤ (leaving k p.1 (guessed_current volts no_guess p)) ≤ℤ (pos (2 ^ 36 * most_volts) *ℤ weight p))
  push k p =
      let there = no_guess-at p.1.to in
      let driven : pos 0 -ℤ value_at no_guess p.1.to +ℤ pos (2 ^ 36) *ℤ volts p.0 ≡ pos (2 ^ 36) *ℤ volts p.0 = omega (arith, linear) in
      let same : guessed_current volts no_guess p ≡ weight p *ℤ (pos (2 ^ 36) *ℤ volts p.0) = ap (λ z. weight p *ℤ z) driven in
      let size = unsigned_abs-mul (pos (2 ^ 36)) (volts p.0) in
      let most : 2 ^ 36 * unsigned_abs (volts p.0) ≤ 2 ^ 36 * most_volts = mul-le-mul_left (2 ^ 36) (limit p.0) in
      let both = product_within (p.1.times * 1000000) (2 ^ 36 * most_volts) (pos (2 ^ 36) *ℤ volts p.0) (omega arith) in
      leaving_within k p.1 (guessed_current volts no_guess p) (pos (2 ^ 36 * most_volts) *ℤ weight p) (omega (arith, linear, both.0)) (omega (arith, linear, both.1))

  pushes : (k : ℕ) (ps : List Placed) → AllByRecursion (λ p. leaving k p.1 (guessed_current volts no_guess p) ≤ℤ (pos (2 ^ 36 * most_volts) *ℤ weight p)) ps
  pushes k [] = tt
  pushes k (p ∷ ps) = ((push k p).0, pushes k ps)

  pushes_back : (k : ℕ) (ps : List Placed) → AllByRecursion (λ p. neg_ℤ (leaving k p.1 (guessed_current volts no_guess p)) ≤ℤ (pos (2 ^ 36 * most_volts) *ℤ weight p)) ps
  pushes_back k [] = tt
  pushes_back k (p ∷ ps) = ((push k p).1, pushes_back k ps)

  -- so guesses of 0 are settled within the greatest voltage in grains
  pub settled_at_0 : (standing : List Placed) → IsSettledWithin standing volts no_guess (2 ^ 36 * most_volts)
  settled_at_0 standing k live =
      let ps = elements_at standing k in
      carried_within (λ p. leaving k p.1 (guessed_current volts no_guess p)) (2 ^ 36 * most_volts) ps (pushes k ps) (pushes_back k ps)

-- over plain numbers: the grains are cancelled
cancel : (g a v m d b : ℕ) → 0 < g → g * a ≤ v * (d * (g * b)) → v ≤ m → a ≤ m * b * d
cancel g a v m d b some h small =
    let more : v * (d * (g * b)) ≤ m * (d * (g * b)) = mul-le-mul_right (d * (g * b)) small in
    let times : g * a ≤ g * (m * b * d) = omega arith in
    le_of_mul-le-mul_left times some

pub potentials_bounded : (nodes : ℕ) (standing : List Placed) → AllByRecursion (λ p. IsElementWithin nodes p.1) standing → (volts : ℕ → ℤ) (s : Solution) →
    IsEarthedWithin standing 4096 → AreVolts volts → IsSolution standing volts s → (k : ℕ) → IsLive standing k →
    unsigned_abs (s.potential k) ≤ 4096 * most_volts * s.denominator
potentials_bounded nodes standing within volts s earthed limit solves k live =
    let bound = error_bound nodes standing within volts no_guess s earthed.entries (2 ^ 36 * most_volts) solves earthed.bound (settled_at_0 volts limit standing) k live in
    let none = *ℤ-zero (pos s.denominator) in
    let size : unsigned_abs (error s no_guess k) ≡ unsigned_abs (pos (2 ^ 36) *ℤ s.potential k) = omega (arith, ints) in
    let product = unsigned_abs-mul (pos (2 ^ 36)) (s.potential k) in
    cancel (2 ^ 36) (unsigned_abs (s.potential k)) (earthed.entries k) 4096 s.denominator most_volts (omega arith) (omega arith) (earthed.none_above k)
