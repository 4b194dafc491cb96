-- The residual of the guesses is what the errors carry.
use Rattle.std.proofs.Common.{◌≡◌, ℕ, ◌^◌, Bool, true, false, cond, ◌||◌, ◌==◌, List, [], ◌∷◌, ℤ, pos, ◌+ℤ◌, ◌-ℤ◌, ◌*ℤ◌, neg_ℤ, arith, refl, ap, sym, ◌∙◌, eqb-true}
use lib.IntN.{*ℤ-zero}
use Rattle.std.specs.List.{AllByRecursion}
use Rattle.gic_model.specs.declared.parts.End.{End}
use Rattle.gic_model.specs.declared.parts.End.TheVariants.{Node, Earth}
use Rattle.gic_model.specs.Network.{is_node, ends_at}
use Rattle.gic_model.specs.Standing.{value_at, leaving}
use Rattle.gic_model.specs.Sums.{Placed, sum_of}
use Rattle.gic_model.specs.Ohms.{product_of_ohms, sum_over_ohms}
use Rattle.gic_model.specs.Solution.{Solution, IsOhm}
use Rattle.gic_model.specs.Guess.{guessed_current}
use Rattle.gic_fixed.proofs.Integers.{linear, *ℤ-+ℤ, *ℤ--ℤ, *ℤ-neg_ℤ, *ℤ_left_comm}
use Rattle.gic_model.proofs.SumLaws.{sum_over_ohms-same, sum_over_ohms-*ℤ, sum_over_ohms-+ℤ, sum_over_ohms-whole}
use Rattle.gic_fixed.proofs.Sums.{sum_of-*ℤ}
use Rattle.gic_model.proofs.Row.{weight, fall}

-- the error of the guesses in grains, over the solution's denominator
abbrev pub error : Solution → (ℕ → ℤ) → ℕ → ℤ
error s x m = pos s.denominator *ℤ x m -ℤ pos (2 ^ 36) *ℤ s.potential m

-- one element, over plain numbers: d times what Ohm's law gives over the guesses is what the errors give, and the current
one_element : (d g w r c xf xt pf pt u : ℤ) → r *ℤ c ≡ w *ℤ (pf -ℤ pt +ℤ d *ℤ u) →
    d *ℤ (w *ℤ (xf -ℤ xt +ℤ g *ℤ u)) ≡ w *ℤ ((d *ℤ xf -ℤ g *ℤ pf) -ℤ (d *ℤ xt -ℤ g *ℤ pt)) +ℤ r *ℤ (g *ℤ c)
one_element d g w r c xf xt pf pt u ohm =
    let left = *ℤ_left_comm d w (xf -ℤ xt +ℤ g *ℤ u) in
    let left_split = *ℤ-+ℤ d (xf -ℤ xt) (g *ℤ u) in
    let left_fall = *ℤ--ℤ d xf xt in
    let turned = *ℤ_left_comm d g u in
    let right = *ℤ_left_comm r g c in
    let by_ohm = ap (λ z. g *ℤ z) ohm in
    let out = *ℤ_left_comm g w (pf -ℤ pt +ℤ d *ℤ u) in
    let out_split = *ℤ-+ℤ g (pf -ℤ pt) (d *ℤ u) in
    let out_fall = *ℤ--ℤ g pf pt in
    let sum = *ℤ-+ℤ w ((d *ℤ xf -ℤ g *ℤ pf) -ℤ (d *ℤ xt -ℤ g *ℤ pt)) (g *ℤ (pf -ℤ pt +ℤ d *ℤ u)) in
    let inner : d *ℤ (xf -ℤ xt +ℤ g *ℤ u) ≡ (d *ℤ xf -ℤ g *ℤ pf) -ℤ (d *ℤ xt -ℤ g *ℤ pt) +ℤ g *ℤ (pf -ℤ pt +ℤ d *ℤ u) = omega (arith, linear) in
    let weighed = ap (λ z. w *ℤ z) inner in
    omega (arith, linear)

-- the error at an end
error-at : (s : Solution) (x : ℕ → ℤ) (t : End) → value_at (error s x) t ≡ pos s.denominator *ℤ value_at x t -ℤ pos (2 ^ 36) *ℤ value_at s.potential t
error-at s x (Node m) = refl
error-at s x Earth =
    let first = *ℤ-zero (pos s.denominator) in
    let second = *ℤ-zero (pos (2 ^ 36)) in
    omega (arith, linear)

-- along one element, from its `from` to its `to`
along : (volts x : ℕ → ℤ) (s : Solution) (p : Placed) → IsOhm volts s p →
    pos s.denominator *ℤ guessed_current volts x p ≡ weight p *ℤ (error s x p.1.from.0 -ℤ value_at (error s x) p.1.to) +ℤ pos p.1.micro_ohm *ℤ (pos (2 ^ 36) *ℤ s.current p.0)
along volts x s p ohm =
    let one = one_element (pos s.denominator) (pos (2 ^ 36)) (weight p) (pos p.1.micro_ohm) (s.current p.0) (x p.1.from.0) (value_at x p.1.to) (s.potential p.1.from.0) (value_at s.potential p.1.to) (volts p.0) ohm in
    let there = ap (λ z. weight p *ℤ (error s x p.1.from.0 -ℤ z)) (error-at s x p.1.to) in
    omega (arith, linear)

-- the value at an end that is the node k
pub value-node : (e : ℕ → ℤ) (k : ℕ) (t : End) → is_node t k ≡ true → value_at e t ≡ e k
value-node e k (Node m) is = ap e (eqb-true m.0 k is)
value-node e k Earth is = absurd (no_way is)
  where
    no_way : false ≡ true → ⊥
    no_way h = cc

-- the fall where k is the element's `from`, and where it is its `to`
pub fall-from : (e : ℕ → ℤ) (k : ℕ) (p : Placed) → (p.1.from.0 == k) ≡ true → fall e k p ≡ e p.1.from.0 -ℤ value_at e p.1.to
fall-from e k p is =
    ap (λ b. e k -ℤ value_at e (cond b p.1.to (Node p.1.from))) is ∙ ap (λ z. e z -ℤ value_at e p.1.to) (sym (eqb-true p.1.from.0 k is))

pub fall-to : (e : ℕ → ℤ) (k : ℕ) (p : Placed) → (p.1.from.0 == k) ≡ false → ends_at p.1 k ≡ true → fall e k p ≡ neg_ℤ (e p.1.from.0 -ℤ value_at e p.1.to)
fall-to e k p is ends =
    let there = value-node e k p.1.to (sym (ap (λ b. b || is_node p.1.to k) is) ∙ ends) in
    ap (λ b. e k -ℤ value_at e (cond b p.1.to (Node p.1.from))) is ∙ omega (arith, linear)

-- what leaves k through one element
through : (volts x : ℕ → ℤ) (s : Solution) (k : ℕ) (p : Placed) → ends_at p.1 k ≡ true → IsOhm volts s p →
    pos s.denominator *ℤ leaving k p.1 (guessed_current volts x p) ≡ weight p *ℤ fall (error s x) k p +ℤ pos p.1.micro_ohm *ℤ (pos (2 ^ 36) *ℤ leaving k p.1 (s.current p.0))
through volts x s k p ends ohm = by (p.1.from.0 == k) refl
  where
    by : (b : Bool) → (p.1.from.0 == k) ≡ b →
        pos s.denominator *ℤ cond b (guessed_current volts x p) (neg_ℤ (guessed_current volts x p)) ≡
        weight p *ℤ fall (error s x) k p +ℤ pos p.1.micro_ohm *ℤ (pos (2 ^ 36) *ℤ cond b (s.current p.0) (neg_ℤ (s.current p.0)))
    by true is =
        let fact = along volts x s p ohm in
        let here = ap (λ z. weight p *ℤ z) (fall-from (error s x) k p is) in
        omega (arith, linear)
    by false is =
        let fact = along volts x s p ohm in
        let here = ap (λ z. weight p *ℤ z) (fall-to (error s x) k p is ends) in
        let turned = *ℤ-neg_ℤ (weight p) (error s x p.1.from.0 -ℤ value_at (error s x) p.1.to) in
        let left = *ℤ-neg_ℤ (pos s.denominator) (guessed_current volts x p) in
        let inner = ap (λ z. pos p.1.micro_ohm *ℤ z) (*ℤ-neg_ℤ (pos (2 ^ 36)) (s.current p.0)) in
        let outer = *ℤ-neg_ℤ (pos p.1.micro_ohm) (pos (2 ^ 36) *ℤ s.current p.0) in
        omega (arith, linear)

each : (volts x : ℕ → ℤ) (s : Solution) (k : ℕ) (ps : List Placed) → AllByRecursion (λ p. (ends_at p.1 k ≡ true) × IsOhm volts s p) ps →
    AllByRecursion (λ p. pos s.denominator *ℤ leaving k p.1 (guessed_current volts x p) ≡ weight p *ℤ fall (error s x) k p +ℤ pos p.1.micro_ohm *ℤ (pos (2 ^ 36) *ℤ leaving k p.1 (s.current p.0))) ps
each volts x s k [] h = tt
each volts x s k (p ∷ ps) h = (through volts x s k p h.0.0 h.0.1, each volts x s k ps h.1)

-- the residual at the node k, times the denominator, is what the errors carry
pub residual-error : (volts x : ℕ → ℤ) (s : Solution) (k : ℕ) (ps : List Placed) → AllByRecursion (λ p. (ends_at p.1 k ≡ true) × IsOhm volts s p) ps →
    sum_of (λ p. leaving k p.1 (s.current p.0)) ps ≡ pos 0 →
    pos s.denominator *ℤ sum_over_ohms (λ p. leaving k p.1 (guessed_current volts x p)) ps ≡ sum_over_ohms (λ p. weight p *ℤ fall (error s x) k p) ps
residual-error volts x s k ps h kirchhoff =
    let left = sum_over_ohms-*ℤ (pos s.denominator) (λ p. leaving k p.1 (guessed_current volts x p)) ps in
    let same = sum_over_ohms-same (λ p. pos s.denominator *ℤ leaving k p.1 (guessed_current volts x p)) (λ p. weight p *ℤ fall (error s x) k p +ℤ pos p.1.micro_ohm *ℤ (pos (2 ^ 36) *ℤ leaving k p.1 (s.current p.0))) ps (each volts x s k ps h) in
    let split = sum_over_ohms-+ℤ (λ p. weight p *ℤ fall (error s x) k p) (λ p. pos p.1.micro_ohm *ℤ (pos (2 ^ 36) *ℤ leaving k p.1 (s.current p.0))) ps in
    let whole = sum_over_ohms-whole (λ p. pos (2 ^ 36) *ℤ leaving k p.1 (s.current p.0)) ps in
    let scaled = sum_of-*ℤ (pos (2 ^ 36)) (λ p. leaving k p.1 (s.current p.0)) ps in
    let nothing = ap (λ z. pos (2 ^ 36) *ℤ z) kirchhoff in
    let none = *ℤ-zero (pos (2 ^ 36)) in
    let all = ap (λ z. pos (product_of_ohms ps) *ℤ z) scaled in
    let all_none = ap (λ z. pos (product_of_ohms ps) *ℤ z) (nothing ∙ none) in
    let zero_is = *ℤ-zero (pos (product_of_ohms ps)) in
    omega (arith, linear)
