use Rattle.std.proofs.Common.{rules, arith, ◌≡◌, ℕ, ◌^◌, ◌≤◌, ℤ, pos, negsuc, neg_ℤ, ◌≤ℤ◌, unsigned_abs, subst, sym, ap, ◌∙◌, to_z, of_z}
use Rattle.std.specs.Int.{w128}
use Rattle.std.proofs.lemmas.Int.{to_z-of_z, fits_signed_from_abs}
use Rattle.gic_fixed.proofs.Integers.{linear}
use Rattle.gic_fixed.proofs.Signs.{abs_in}
use Rattle.gic_cert.specs.declared.limits.TheConstants.{MOST_WRITTEN_GUESS, MOST_WRITTEN_RADIUS}
use Rattle.gic_cert.proofs.lines.read_node.Goals as goal

within : (z : ℤ) (n : ℕ) → neg_ℤ (pos n) ≤ℤ z → z ≤ℤ pos n → unsigned_abs z ≤ n
within z n low high = let few = abs_in 1 n z (omega (arith, linear)) (omega (arith, linear)) in omega (arith, few)

-- a number of 128 bits in its range
wide : (z : ℤ) (n : ℕ) → n ≤ 2 ^ 126 → neg_ℤ (pos n) ≤ℤ z → z ≤ℤ pos n → to_z w128 (of_z w128 z) ≡ z
wide z n few low high = let near = within z n low high in to_z-of_z w128 z (fits_signed_from_abs w128 z (omega (arith, near, few)))

positive : (z : ℤ) → pos 1 ≤ℤ z → unsigned_abs z ≡ 0 → ⊥
positive (pos n) some none = omega (arith, linear, none)
positive (negsuc n) some none = omega (arith, none)

pub returns-else-not-live-clause-range : goal.returns-else-not-live-clause-range
returns-else-not-live-clause-range c =
    let v = c.in-Some-Some-Some.entry in
    let x = c.in-Some-Some-Some.guess in
    let r = c.in-Some-Some-Some.radius in
    let entry : (pos 1 ≤ℤ v) × (v ≤ℤ pos 4096) = search (rules, c.read_wide-entry.ensures.within) in
    let guess : (neg_ℤ (pos MOST_WRITTEN_GUESS) ≤ℤ x) × (x ≤ℤ pos MOST_WRITTEN_GUESS) = search (rules, c.read_wide-guess.ensures.within) in
    let radius : (pos 0 ≤ℤ r) × (r ≤ℤ pos MOST_WRITTEN_RADIUS) = search (rules, c.read_wide-radius.ensures.within) in
    let low : neg_ℤ (pos MOST_WRITTEN_RADIUS) ≤ℤ r = omega (arith, linear) in
    let below : neg_ℤ (pos 4096) ≤ℤ v = omega (arith, linear) in
    let no_entry : unsigned_abs (to_z w128 (of_z w128 v)) ≡ 0 → ⊥ = λ none. positive v entry.0 (sym (ap unsigned_abs (wide v 4096 (omega arith) below entry.1)) ∙ none) in
    record {
      entry = search (rules, c.read_wide-entry.ensures.within);
      guess = subst (λ (z : ℤ). unsigned_abs z ≤ MOST_WRITTEN_GUESS) (sym (wide x MOST_WRITTEN_GUESS (omega arith) guess.0 guess.1)) (within x MOST_WRITTEN_GUESS guess.0 guess.1);
      radius = subst (λ (z : ℤ). unsigned_abs z ≤ MOST_WRITTEN_RADIUS) (sym (wide r MOST_WRITTEN_RADIUS (omega arith) low radius.1)) (within r MOST_WRITTEN_RADIUS low radius.1);
      dead_guess = λ none. absurd (no_entry none);
      dead_radius = λ none. absurd (no_entry none);
    }
