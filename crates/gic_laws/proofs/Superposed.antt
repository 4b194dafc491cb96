-- A transformer's current in a uniform field is that to the north and that to the east, superposed.
use Rattle.std.proofs.Common.{◌≡◌, ◌⊎◌, inl, inr, ℕ, ◌+◌, ◌*◌, ◌<◌, ◌≤◌, Bool, List, ℤ, pos, zero, suc, ◌+ℤ◌, ◌*ℤ◌, unsigned_abs, arith, ap, sym, subst, ◌∙◌}
use Rattle.std.proofs.lemmas.Bool.{cases_lt}
use Rattle.std.proofs.lemmas.Int.{ints, unsigned_abs-mul}
use Rattle.gic_fixed.proofs.Integers.{linear}
use Rattle.gic_base.specs.declared.id.ElementId.{ElementId}
use Rattle.gic_case.specs.Lists.{Lists}
use Rattle.gic_induce.specs.Linear.{VoltsAreLinear}
use Rattle.gic_model.specs.declared.parts.Item.{Item}
use Rattle.gic_model.specs.Network.{Network}
use Rattle.gic_model.specs.Solution.{Solution, IsSolution}
use Rattle.gic_model.specs.SolutionLaws.{SolutionsCombine, combined}
use Rattle.gic_model.specs.Standing.{standing_elements}
use Rattle.gic_model.specs.Sums.{Placed}
use Rattle.gic_exists.specs.Exists.{AnyTwoAgree, Agree}
use Rattle.gic_winding.specs.Weights.{transformer_at, weighted_windings}
use Rattle.gic_effective.specs.Weighted.{effective_numerator, effective_denominator}
use Rattle.gic_criteria.specs.Worst.{square_of}
use Rattle.gic_uniform.specs.Uniform.{uniform_volts}
use Rattle.gic_laws.specs.Orientation.{AreSolutions, times, north_current, east_current, current_squared, worst_squared}
use Rattle.gic_laws.proofs.Fields.{volts_combined}
use Rattle.gic_laws.proofs.Products.{cancelled, once_out, parts_out, scaled, square_out}
use Rattle.gic_laws.proofs.Squares.{square_grows, square_most, square_reached, square_same}
use Rattle.gic_superpose.proofs.Weighted.{none_times, sum_agrees, sum_combined, sum_times}

-- the effective numerator of combined solutions
numerator_combined : (case : Lists) (t : ℕ) (c : ℤ) (one : Solution) (d : ℤ) (other : Solution)
    → effective_numerator case (combined c one d other) t
    ≡ c *ℤ (pos other.denominator *ℤ effective_numerator case one t) +ℤ d *ℤ (pos one.denominator *ℤ effective_numerator case other t)
numerator_combined case t c one d other =
    sum_combined (λ (w : ElementId × ℕ). w.1) (λ w. one.current w.0.0) (λ w. other.current w.0.0) c (pos other.denominator) d (pos one.denominator) (weighted_windings case t)

-- the effective numerators of solutions that agree
numerator_agrees : (case : Lists) (t : ℕ) (standing : List Placed) (one other : Solution) → Agree standing one other
    → effective_numerator case one t *ℤ pos other.denominator ≡ effective_numerator case other t *ℤ pos one.denominator
numerator_agrees case t standing one other agree =
    sum_agrees (λ (w : ElementId × ℕ). w.1) (λ w. one.current w.0.0) (λ w. other.current w.0.0) (pos other.denominator) (pos one.denominator) (λ w. agree.currents w.0.0) (weighted_windings case t)

-- the effective numerator of n times a solution
numerator_times : (case : Lists) (t parts : ℕ) (s : Solution) → effective_numerator case (times parts s) t ≡ pos parts *ℤ effective_numerator case s t
numerator_times case t parts s =
    sum_times (λ (w : ElementId × ℕ). w.1) (λ w. s.current w.0.0) (λ w. s.current w.0.0) (pos parts) (weighted_windings case t)

no_greater : (a b c : ℕ) → a ≤ b → b ≤ c → a ≤ c
no_greater a b c first later = omega (arith, first, later)

-- over plain numbers: from the two that agree to the sum, without the denominator that they share
sum_taken_out : (strength north east q a b : ℤ) (d n e : ℕ) → 0 < d
    → (north *ℤ (pos e *ℤ a) +ℤ east *ℤ (pos n *ℤ b)) *ℤ pos (d * d) ≡ (strength *ℤ (pos d *ℤ q) +ℤ pos 0 *ℤ (pos d *ℤ q)) *ℤ pos (n * e)
    → pos d *ℤ (north *ℤ (pos e *ℤ a) +ℤ east *ℤ (pos n *ℤ b)) ≡ strength *ℤ (q *ℤ pos (n * e))
sum_taken_out strength north east q a b d n e some is =
    let sum = north *ℤ (pos e *ℤ a) +ℤ east *ℤ (pos n *ℤ b) in
    let none = none_times (pos d *ℤ q) in
    let plain : strength *ℤ (pos d *ℤ q) +ℤ pos 0 *ℤ (pos d *ℤ q) ≡ strength *ℤ (pos d *ℤ q) = omega (arith, linear) in
    cancelled d (pos d *ℤ sum) (strength *ℤ (q *ℤ pos (n * e))) some
    (sym (square_out sum d) ∙ is ∙ ap (λ z. z *ℤ pos (n * e)) plain ∙ once_out strength q d (n * e))

nothing_of : (z : ℤ) → unsigned_abs z ≤ 0 → z ≡ pos 0
nothing_of z h = omega (arith, ints)

root_of_nothing : (n : ℕ) → n * n ≤ 0 → n ≤ 0
root_of_nothing zero h = omega arith
root_of_nothing (suc n) h = absurd (omega arith)

first_of_nothing : (n k : ℕ) → 0 < k → n * k ≤ 0 → n ≤ 0
first_of_nothing zero k some h = omega arith
first_of_nothing (suc n) k some h = absurd (omega (arith, some, h))

module _ (linear_volts : VoltsAreLinear) (superpose : SolutionsCombine) (case : Lists) (network : Network) (stands : Item → Bool) (strength north east : ℤ) (parts : ℕ) (to_north to_east part : Solution)
    (agree : (volts : ℕ → ℤ) → AnyTwoAgree (standing_elements network stands) volts)
    (solved : AreSolutions case (standing_elements network stands) strength north east parts to_north to_east part) where
  -- a solution in the field (north, east)
  abbrev s : Solution
  s = times parts part

  abbrev standing : List Placed
  standing = standing_elements network stands

  -- the two fields together, and the one as often as they are strong
  both_agree : Agree standing (combined north to_north east to_east) (combined strength s (pos 0) s)
  both_agree =
      let together = superpose network stands (uniform_volts case strength (pos 0)) (uniform_volts case (pos 0) strength) to_north to_east north east solved.in_north solved.in_east in
      let often = superpose network stands (uniform_volts case north east) (uniform_volts case north east) s s strength (pos 0) solved.in_both solved.in_both in
      agree _ (combined north to_north east to_east) (combined strength s (pos 0) s) together
      (subst (λ (v : ℕ → ℤ). IsSolution standing v (combined strength s (pos 0) s)) (volts_combined linear_volts case strength north east) often)

  superposed : (t : ℕ) → strength *ℤ (effective_numerator case s t *ℤ pos (effective_denominator case t to_north * effective_denominator case t to_east))
      ≡ pos (effective_denominator case t s) *ℤ (north *ℤ north_current case t to_north to_east +ℤ east *ℤ east_current case t to_north to_east)
  superposed t =
      let q = effective_numerator case s t in
      let a = effective_numerator case to_north t in
      let b = effective_numerator case to_east t in
      let equal : (north *ℤ (pos to_east.denominator *ℤ a) +ℤ east *ℤ (pos to_north.denominator *ℤ b)) *ℤ pos (s.denominator * s.denominator)
      ≡ (strength *ℤ (pos s.denominator *ℤ q) +ℤ pos 0 *ℤ (pos s.denominator *ℤ q)) *ℤ pos (to_north.denominator * to_east.denominator) =
      ap (λ z. z *ℤ pos (s.denominator * s.denominator)) (sym (numerator_combined case t north to_north east to_east))
      ∙ numerator_agrees case t standing (combined north to_north east to_east) (combined strength s (pos 0) s) both_agree
      ∙ ap (λ z. z *ℤ pos (to_north.denominator * to_east.denominator)) (numerator_combined case t strength s (pos 0) s) in
      scaled strength north east q a b (3000000 * (transformer_at case t).high_volts) s.denominator to_north.denominator to_east.denominator
      (sum_taken_out strength north east q a b s.denominator to_north.denominator to_east.denominator solved.in_both.denominator_above_0 equal)

  -- the same of the solution in the field (north/parts, east/parts)
  part_superposed : (t : ℕ) → (strength *ℤ pos parts) *ℤ (effective_numerator case part t *ℤ pos (effective_denominator case t to_north * effective_denominator case t to_east))
      ≡ pos (effective_denominator case t part) *ℤ (north *ℤ north_current case t to_north to_east +ℤ east *ℤ east_current case t to_north to_east)
  part_superposed t =
      let both = pos (effective_denominator case t to_north * effective_denominator case t to_east) in
      sym (parts_out strength (effective_numerator case part t) both parts) ∙ ap (λ z. strength *ℤ (z *ℤ both)) (sym (numerator_times case t parts part)) ∙ superposed t

  -- a field without strength is the one to the north
  without_strength : square_of north + square_of east ≤ square_of (strength *ℤ pos parts) → square_of (strength *ℤ pos parts) ≤ 0 → uniform_volts case north east ≡ uniform_volts case strength (pos 0)
  without_strength within none =
      let size = root_of_nothing (unsigned_abs (strength *ℤ pos parts)) none in
      let product = unsigned_abs-mul strength (pos parts) in
      let strength_is = nothing_of strength (first_of_nothing (unsigned_abs strength) parts solved.some_parts (omega (arith, size, product))) in
      let north_is = nothing_of north (root_of_nothing (unsigned_abs north) (omega (arith, within, none))) in
      let east_is = nothing_of east (root_of_nothing (unsigned_abs east) (omega (arith, within, none))) in
      ap (λ (z : ℤ). uniform_volts case z east) (north_is ∙ sym strength_is) ∙ ap (λ (z : ℤ). uniform_volts case strength z) east_is

  most_by : (t : ℕ) → ((c d : ℤ) (x y : ℤ) → square_of (c *ℤ x +ℤ d *ℤ y) ≤ (square_of c + square_of d) * (square_of x + square_of y))
      → square_of north + square_of east ≤ square_of (strength *ℤ pos parts) → ((0 < square_of (strength *ℤ pos parts)) ⊎ (square_of (strength *ℤ pos parts) ≤ 0))
      → current_squared case t to_north to_east part ≤ worst_squared case t to_north to_east part
  most_by t cauchy within (inl some) =
      square_most (strength *ℤ pos parts) north east (effective_numerator case part t *ℤ pos (effective_denominator case t to_north * effective_denominator case t to_east))
      (north_current case t to_north to_east) (east_current case t to_north to_east) (effective_denominator case t part)
      (cauchy north east (north_current case t to_north to_east) (east_current case t to_north to_east)) (part_superposed t) within some
  most_by t cauchy within (inr none) =
      let same = subst (λ (v : ℕ → ℤ). IsSolution standing v s) (without_strength within none) solved.in_both in
      let q = effective_numerator case part t in
      let both = pos (effective_denominator case t to_north * effective_denominator case t to_east) in
      let agrees : (pos parts *ℤ q) *ℤ pos to_north.denominator ≡ effective_numerator case to_north t *ℤ pos s.denominator =
      ap (λ z. z *ℤ pos to_north.denominator) (sym (numerator_times case t parts part)) ∙ numerator_agrees case t standing s to_north (agree _ s to_north same solved.in_north) in
      let more = square_same (pos parts *ℤ q) (effective_numerator case to_north t) (east_current case t to_north to_east) (3000000 * (transformer_at case t).high_volts)
      s.denominator to_north.denominator (effective_denominator case t to_east) agrees in
      no_greater _ _ _ (square_grows q both parts solved.some_parts) more

  pub most : (t : ℕ) → ((c d : ℤ) (x y : ℤ) → square_of (c *ℤ x +ℤ d *ℤ y) ≤ (square_of c + square_of d) * (square_of x + square_of y))
      → square_of north + square_of east ≤ square_of (strength *ℤ pos parts)
      → current_squared case t to_north to_east part ≤ worst_squared case t to_north to_east part
  most t cauchy within = most_by t cauchy within (cases_lt 0 (square_of (strength *ℤ pos parts)))

  pub reached : (t : ℕ) → north *ℤ east_current case t to_north to_east ≡ east *ℤ north_current case t to_north to_east
      → square_of (strength *ℤ pos parts) * current_squared case t to_north to_east part ≡ (square_of north + square_of east) * worst_squared case t to_north to_east part
  reached t aligned =
      square_reached (strength *ℤ pos parts) north east (effective_numerator case part t *ℤ pos (effective_denominator case t to_north * effective_denominator case t to_east))
      (north_current case t to_north to_east) (east_current case t to_north to_east) (effective_denominator case t part) (part_superposed t) aligned
