-- Potentials over which Kirchhoff's law holds make a solution, multiplied by the product of the resistances.
use Rattle.std.proofs.Common.{◌≡◌, ℕ, ◌*◌, ◌<◌, ◌==◌, Bool, true, false, cond, List, ℤ, pos, ◌+ℤ◌, ◌-ℤ◌, ◌*ℤ◌, neg_ℤ, arith, ap, sym, ◌∙◌}
use lib.IntN.{*ℤ-zero}
use Rattle.std.specs.List.{AllByRecursion}
use Rattle.std.proofs.lemmas.List.Elements.{All-from_recursion}
use Rattle.gic_base.proofs.Each.{weaker}
use Rattle.gic_model.specs.declared.parts.Element.{Element}
use Rattle.gic_model.specs.Network.{ends_at}
use Rattle.gic_model.specs.Standing.{IsLive, elements_at, value_at, leaving}
use Rattle.gic_model.specs.Sums.{Placed, sum_of}
use Rattle.gic_model.specs.Ohms.{product_of_ohms, sum_over_ohms}
use Rattle.gic_model.specs.Solution.{Solution, IsOhm, IsSolution}
use Rattle.gic_fixed.proofs.Divisions.{positive_product}
use Rattle.gic_fixed.proofs.Integers.{linear, nothing_from, *ℤ_assoc, *ℤ-+ℤ, *ℤ--ℤ, *ℤ-neg_ℤ, *ℤ_left_comm}
use Rattle.gic_model.proofs.EndValues.{value_times}
use Rattle.gic_model.proofs.SumLaws.{HasOhms, product_positive, sum_over_ohms-same, sum_over_ohms-*ℤ, sum_over_ohms-whole}
use Rattle.gic_model.proofs.Row.{weight}
use Rattle.gic_model.proofs.Members.{kept, both}
use Rattle.gic_exists.proofs.Places.{found_at, IsApart, none_found, others, shared}

-- what Ohm's law gives over x / d, times R and d
abbrev pub driven : (ℕ → ℤ) → (ℕ → ℤ) → ℕ → Placed → ℤ
driven volts x d p = weight p *ℤ (x p.1.from.0 -ℤ value_at x p.1.to +ℤ pos d *ℤ volts p.0)

-- as much enters each live node as leaves it
abbrev pub IsBalanced : List Placed → (ℕ → ℤ) → (ℕ → ℤ) → ℕ → Type 0
IsBalanced standing volts x d = (k : ℕ) → IsLive standing k → sum_over_ohms (λ p. leaving k p.1 (driven volts x d p)) (elements_at standing k) ≡ pos 0

-- an element's current over a denominator at which it is whole: what Ohm's law gives times the product of the other resistances
abbrev pub whole_current : List Placed → (ℕ → ℤ) → (ℕ → ℤ) → ℕ → Placed → ℤ
whole_current standing volts x d p = pos (others standing p) *ℤ driven volts x d p

-- the solution that they make
abbrev pub made : List Placed → (ℕ → ℤ) → (ℕ → ℤ) → ℕ → Solution
made standing volts x d = record {
  potential = λ m. pos (product_of_ohms standing) *ℤ x m;
  current = found_at (whole_current standing volts x d) standing;
  denominator = product_of_ohms standing * d;
}

-- the resistance divides the product of all, and the element's current is found at its place
abbrev IsFoundWithShare : List Placed → (ℕ → ℤ) → (ℕ → ℤ) → ℕ → Placed → Type 0
IsFoundWithShare standing volts x d p =
    (p.1.micro_ohm * others standing p ≡ product_of_ohms standing) × (found_at (whole_current standing volts x d) standing p.0 ≡ whole_current standing volts x d p)

-- a factor over plain numbers
scaled : (c w a b d u : ℤ) → c *ℤ (w *ℤ (a -ℤ b +ℤ d *ℤ u)) ≡ w *ℤ (c *ℤ a -ℤ c *ℤ b +ℤ (c *ℤ d) *ℤ u)
scaled c w a b d u =
    let out = *ℤ_left_comm c w (a -ℤ b +ℤ d *ℤ u) in
    let split = *ℤ-+ℤ c (a -ℤ b) (d *ℤ u) in
    let less = *ℤ--ℤ c a b in
    let same = *ℤ_assoc c d u in
    let inner : c *ℤ (a -ℤ b +ℤ d *ℤ u) ≡ c *ℤ a -ℤ c *ℤ b +ℤ (c *ℤ d) *ℤ u = omega (arith, linear) in
    out ∙ ap (λ z. w *ℤ z) inner

-- R times its current is the product of the resistances times what Ohm's law gives
current_of : (standing : List Placed) (volts x : ℕ → ℤ) (d : ℕ) (p : Placed) → IsFoundWithShare standing volts x d p →
    pos p.1.micro_ohm *ℤ (made standing volts x d).current p.0 ≡ pos (product_of_ohms standing) *ℤ driven volts x d p
current_of standing volts x d p (share, found) =
    ap (λ z. pos p.1.micro_ohm *ℤ z) found ∙
    sym (*ℤ_assoc (pos p.1.micro_ohm) (pos (others standing p)) (driven volts x d p)) ∙
    ap (λ z. pos z *ℤ driven volts x d p) share

-- so Ohm's law holds of it
ohm_of : (standing : List Placed) (volts x : ℕ → ℤ) (d : ℕ) (p : Placed) → IsFoundWithShare standing volts x d p → IsOhm volts (made standing volts x d) p
ohm_of standing volts x d p h =
    let total = pos (product_of_ohms standing) in
    current_of standing volts x d p h ∙
    scaled total (weight p) (x p.1.from.0) (value_at x p.1.to) (pos d) (volts p.0) ∙
    ap (λ z. weight p *ℤ (total *ℤ x p.1.from.0 -ℤ z +ℤ pos (product_of_ohms standing * d) *ℤ volts p.0)) (sym (value_times total x p.1.to))

-- what leaves k through one element
leaves : (k : ℕ) (e : Element) (r c z f : ℤ) → r *ℤ f ≡ c *ℤ z → r *ℤ leaving k e f ≡ c *ℤ leaving k e z
leaves k e r c z f h = by (e.from.0 == k)
  where
    by : (b : Bool) → r *ℤ cond b f (neg_ℤ f) ≡ c *ℤ cond b z (neg_ℤ z)
    by true = h
    by false =
        let one = *ℤ-neg_ℤ r f in
        let other = *ℤ-neg_ℤ c z in
        let known = h in
        omega (arith, linear)

module _ (standing : List Placed) (ohms : AllByRecursion HasOhms standing) (are_apart : IsApart standing)
    (volts x : ℕ → ℤ) (d : ℕ) (some : 0 < d) (balanced : IsBalanced standing volts x d) where
  known : AllByRecursion (IsFoundWithShare standing volts x d) standing
  known = both (λ p. p.1.micro_ohm * others standing p ≡ product_of_ohms standing) (λ p. found_at (whole_current standing volts x d) standing p.0 ≡ whole_current standing volts x d p) standing
      (shared standing ohms) (are_apart (whole_current standing volts x d))

  -- R times an element's current is the product of the resistances times what Ohm's law gives
  carried : AllByRecursion (λ p. pos p.1.micro_ohm *ℤ (made standing volts x d).current p.0 ≡ pos (product_of_ohms standing) *ℤ driven volts x d p) standing
  carried = weaker (IsFoundWithShare standing volts x d) (λ p. pos p.1.micro_ohm *ℤ (made standing volts x d).current p.0 ≡ pos (product_of_ohms standing) *ℤ driven volts x d p)
      (λ p h. current_of standing volts x d p h) standing known

  kirchhoff_at : (k : ℕ) → IsLive standing k → sum_of (λ p. leaving k p.1 ((made standing volts x d).current p.0)) (elements_at standing k) ≡ pos 0
  kirchhoff_at k live =
      let at_k = elements_at standing k in
      let total = pos (product_of_ohms standing) in
      let whole = sum_over_ohms-whole (λ p. leaving k p.1 ((made standing volts x d).current p.0)) (elements_at standing k) in
      let same = sum_over_ohms-same (λ p. pos p.1.micro_ohm *ℤ leaving k p.1 ((made standing volts x d).current p.0)) (λ p. pos (product_of_ohms standing) *ℤ leaving k p.1 (driven volts x d p)) (elements_at standing k)
      (kept (λ p. ends_at p.1 k) (λ p. pos p.1.micro_ohm *ℤ (made standing volts x d).current p.0 ≡ pos (product_of_ohms standing) *ℤ driven volts x d p)
      (λ p. pos p.1.micro_ohm *ℤ leaving k p.1 ((made standing volts x d).current p.0) ≡ pos (product_of_ohms standing) *ℤ leaving k p.1 (driven volts x d p))
      (λ p is h. leaves k p.1 (pos p.1.micro_ohm) (pos (product_of_ohms standing)) (driven volts x d p) ((made standing volts x d).current p.0) h) standing carried) in
      let out = sum_over_ohms-*ℤ (pos (product_of_ohms standing)) (λ p. leaving k p.1 (driven volts x d p)) (elements_at standing k) in
      let none = ap (λ z. pos (product_of_ohms standing) *ℤ z) (balanced k live) ∙ *ℤ-zero (pos (product_of_ohms standing)) in
      nothing_from (product_of_ohms (elements_at standing k)) _ (product_positive (elements_at standing k) (kept (λ p. ends_at p.1 k) HasOhms HasOhms (λ p is h. h) standing ohms))
      (sym whole ∙ same ∙ out ∙ none)

  pub made_solves : IsSolution standing volts (made standing volts x d)
  made_solves = record {
    denominator_above_0 = positive_product (product_of_ohms standing) d (product_positive standing ohms) some;
    ohm = All-from_recursion (IsOhm volts (made standing volts x d)) standing
        (weaker (IsFoundWithShare standing volts x d) (IsOhm volts (made standing volts x d)) (λ p h. ohm_of standing volts x d p h) standing known);
    none_if_open = λ place not_in. none_found (whole_current standing volts x d) standing place not_in;
    kirchhoff = kirchhoff_at;
  }
