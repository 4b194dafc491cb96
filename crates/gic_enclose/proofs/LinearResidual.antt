-- Residuals of sums and of multiples.
use Rattle.std.proofs.Common.{◌≡◌, ℕ, ◌*◌, ◌≤◌, ◌^◌, Bool, true, false, cond, ◌==◌, List, [], ◌∷◌, ℤ, pos, ◌+ℤ◌, ◌-ℤ◌, ◌*ℤ◌, ◌≤ℤ◌, neg_ℤ, unsigned_abs, arith, refl, ap, sym, ◌∙◌}
use lib.IntN.{*ℤ-zero}
use Rattle.std.specs.List.{AllByRecursion}
use Rattle.std.proofs.lemmas.Int.{ints}
use Rattle.gic_fixed.proofs.Integers.{linear, *ℤ-+ℤ, *ℤ--ℤ, *ℤ-neg_ℤ, *ℤ_left_comm}
use Rattle.gic_model.specs.declared.parts.End.{End}
use Rattle.gic_model.specs.declared.parts.End.TheVariants.{Node, Earth}
use Rattle.gic_model.specs.declared.parts.Element.{Element}
use Rattle.gic_model.specs.Standing.{elements_at, value_at, leaving}
use Rattle.gic_model.specs.Sums.{Placed}
use Rattle.gic_model.specs.Guess.{residual, conductance, guessed_current}
use Rattle.gic_model.proofs.EndValues.{value_sum, value_times}
use Rattle.gic_model.proofs.SumLaws.{sum_over_ohms-same, sum_over_ohms-+ℤ, sum_over_ohms-*ℤ}
use Rattle.gic_model.proofs.Row.{weight}
use Rattle.gic_model.proofs.Pushes.{product_within, leaving_within, carried_within}

-- no voltage
abbrev pub no_volts : ℕ → ℤ
no_volts place = pos 0

-- a guessed current
current_sum : (u v x y : ℕ → ℤ) (p : Placed) → guessed_current (λ i. u i +ℤ v i) (λ m. x m +ℤ y m) p ≡ guessed_current u x p +ℤ guessed_current v y p
current_sum u v x y p =
    let there = value_sum x y p.1.to in
    let push = *ℤ-+ℤ (pos (2 ^ 36)) (u p.0) (v p.0) in
    let one = x p.1.from.0 -ℤ value_at x p.1.to +ℤ pos (2 ^ 36) *ℤ u p.0 in
    let other = y p.1.from.0 -ℤ value_at y p.1.to +ℤ pos (2 ^ 36) *ℤ v p.0 in
    let inner : (x p.1.from.0 +ℤ y p.1.from.0) -ℤ value_at (λ m. x m +ℤ y m) p.1.to +ℤ pos (2 ^ 36) *ℤ (u p.0 +ℤ v p.0) ≡ one +ℤ other = omega (arith, linear) in
    ap (λ z. weight p *ℤ z) inner ∙ *ℤ-+ℤ (weight p) one other

current_times : (a : ℤ) (u x : ℕ → ℤ) (p : Placed) → guessed_current (λ i. a *ℤ u i) (λ m. a *ℤ x m) p ≡ a *ℤ guessed_current u x p
current_times a u x p =
    let there = value_times a x p.1.to in
    let push = *ℤ_left_comm (pos (2 ^ 36)) a (u p.0) in
    let drop = *ℤ--ℤ a (x p.1.from.0) (value_at x p.1.to) in
    let whole = *ℤ-+ℤ a (x p.1.from.0 -ℤ value_at x p.1.to) (pos (2 ^ 36) *ℤ u p.0) in
    let inner : a *ℤ x p.1.from.0 -ℤ value_at (λ m. a *ℤ x m) p.1.to +ℤ pos (2 ^ 36) *ℤ (a *ℤ u p.0) ≡ a *ℤ (x p.1.from.0 -ℤ value_at x p.1.to +ℤ pos (2 ^ 36) *ℤ u p.0) = omega (arith, linear) in
    ap (λ z. weight p *ℤ z) inner ∙ *ℤ_left_comm (weight p) a (x p.1.from.0 -ℤ value_at x p.1.to +ℤ pos (2 ^ 36) *ℤ u p.0)

-- what leaves a node
leaving_sum : (k : ℕ) (e : Element) (z a b : ℤ) → z ≡ a +ℤ b → leaving k e z ≡ leaving k e a +ℤ leaving k e b
leaving_sum k e z a b h = by (e.from.0 == k)
  where
    by : (t : Bool) → cond t z (neg_ℤ z) ≡ cond t a (neg_ℤ a) +ℤ cond t b (neg_ℤ b)
    by true = h
    by false = omega (arith, linear, h)

leaving_times : (k : ℕ) (e : Element) (z a b : ℤ) → z ≡ a *ℤ b → leaving k e z ≡ a *ℤ leaving k e b
leaving_times k e z a b h = by (e.from.0 == k)
  where
    by : (t : Bool) → cond t z (neg_ℤ z) ≡ a *ℤ cond t b (neg_ℤ b)
    by true = h
    by false = ap neg_ℤ h ∙ sym (*ℤ-neg_ℤ a b)

module _ (standing : List Placed) (k : ℕ) where
  pub residual_sum : (u v x y : ℕ → ℤ) → residual standing (λ i. u i +ℤ v i) (λ m. x m +ℤ y m) k ≡ residual standing u x k +ℤ residual standing v y k
  residual_sum u v x y =
      sum_over_ohms-same (λ p. leaving k p.1 (guessed_current (λ i. u i +ℤ v i) (λ m. x m +ℤ y m) p)) (λ p. leaving k p.1 (guessed_current u x p) +ℤ leaving k p.1 (guessed_current v y p)) (elements_at standing k) (each (elements_at standing k)) ∙
      sum_over_ohms-+ℤ (λ p. leaving k p.1 (guessed_current u x p)) (λ p. leaving k p.1 (guessed_current v y p)) (elements_at standing k)
    where
      each : (ps : List Placed) → AllByRecursion (λ p. leaving k p.1 (guessed_current (λ i. u i +ℤ v i) (λ m. x m +ℤ y m) p) ≡ leaving k p.1 (guessed_current u x p) +ℤ leaving k p.1 (guessed_current v y p)) ps
      each [] = tt
      each (p ∷ ps) = (leaving_sum k p.1 (guessed_current (λ i. u i +ℤ v i) (λ m. x m +ℤ y m) p) (guessed_current u x p) (guessed_current v y p) (current_sum u v x y p), each ps)

  pub residual_times : (a : ℤ) (u x : ℕ → ℤ) → residual standing (λ i. a *ℤ u i) (λ m. a *ℤ x m) k ≡ a *ℤ residual standing u x k
  residual_times a u x =
      sum_over_ohms-same (λ p. leaving k p.1 (guessed_current (λ i. a *ℤ u i) (λ m. a *ℤ x m) p)) (λ p. a *ℤ leaving k p.1 (guessed_current u x p)) (elements_at standing k) (each (elements_at standing k)) ∙
      sum_over_ohms-*ℤ a (λ p. leaving k p.1 (guessed_current u x p)) (elements_at standing k)
    where
      each : (ps : List Placed) → AllByRecursion (λ p. leaving k p.1 (guessed_current (λ i. a *ℤ u i) (λ m. a *ℤ x m) p) ≡ a *ℤ leaving k p.1 (guessed_current u x p)) ps
      each [] = tt
      each (p ∷ ps) = (leaving_times k p.1 (guessed_current (λ i. a *ℤ u i) (λ m. a *ℤ x m) p) a (guessed_current u x p) (current_times a u x p), each ps)

  pub residual_nothing : residual standing no_volts no_volts k ≡ pos 0
  residual_nothing =
      let none = residual_sum no_volts no_volts no_volts no_volts in
      let same : residual standing (λ i. no_volts i +ℤ no_volts i) (λ m. no_volts m +ℤ no_volts m) k ≡ residual standing no_volts no_volts k = refl in
      omega (arith, linear)

  -- guesses from 0 to b carry at most what the conductance carries at b
  pub residual_small : (x : ℕ → ℤ) (b : ℕ) → ((m : ℕ) → (pos 0 ≤ℤ x m) × (x m ≤ℤ pos b)) → unsigned_abs (residual standing no_volts x k) ≤ b * unsigned_abs (conductance standing k)
  residual_small x b within = carried_within (λ p. leaving k p.1 (guessed_current no_volts x p)) b (elements_at standing k) (above (elements_at standing k)) (below (elements_at standing k))
    where
      there : (t : End) → (pos 0 ≤ℤ value_at x t) × (value_at x t ≤ℤ pos b)
      there (Node m) = within m.0
      there Earth = (omega (arith, ints), omega (arith, ints))

      one : (p : Placed) → (leaving k p.1 (guessed_current no_volts x p) ≤ℤ (pos b *ℤ weight p)) × (neg_ℤ (leaving k p.1 (guessed_current no_volts x p)) ≤ℤ (pos b *ℤ weight p))
      one p =
          let none = *ℤ-zero (pos (2 ^ 36)) in
          let f = within p.1.from.0 in
          let t = there p.1.to in
          let drop = x p.1.from.0 -ℤ value_at x p.1.to +ℤ pos (2 ^ 36) *ℤ pos 0 in
          let small : unsigned_abs drop ≤ b = plain (x p.1.from.0) (value_at x p.1.to) drop (omega (arith, linear)) f t in
          let both = product_within (p.1.times * 1000000) b drop small in
          leaving_within k p.1 (guessed_current no_volts x p) (pos b *ℤ weight p) both.0 both.1
        where
          plain : (f t d : ℤ) → d ≡ f -ℤ t → (pos 0 ≤ℤ f) × (f ≤ℤ pos b) → (pos 0 ≤ℤ t) × (t ≤ℤ pos b) → unsigned_abs d ≤ b
          plain f t d is g h = omega (arith, ints, is, g, h)

      above : (ps : List Placed) → AllByRecursion (λ p. leaving k p.1 (guessed_current no_volts x p) ≤ℤ (pos b *ℤ weight p)) ps
      above [] = tt
      above (p ∷ ps) = ((one p).0, above ps)

      below : (ps : List Placed) → AllByRecursion (λ p. neg_ℤ (leaving k p.1 (guessed_current no_volts x p)) ≤ℤ (pos b *ℤ weight p)) ps
      below [] = tt
      below (p ∷ ps) = ((one p).1, below ps)
