-- Superposed intervals hold what the intervals of the base fields hold.
use Rattle.std.proofs.Common.{◌≡◌, ℕ, zero, suc, ◌*◌, ◌<◌, ◌≤◌, Bool, List, length, ℤ, pos, ◌+ℤ◌, ◌*ℤ◌, arith, ap, ap₂, sym, subst, ◌∙◌}
use Rattle.std.proofs.lemmas.Int.{ints}
use Rattle.std.proofs.Math.Path.{fun_ext}
use lib.IntN.{*ℤ_comm, *ℤ-zero}
use Rattle.gic_base.specs.declared.limits.TheConstants.{MOST_FIELD}
use Rattle.gic_fixed.specs.Encloses.{Encloses}
use Rattle.gic_fixed.proofs.Integers.{linear, *ℤ_left_comm, nothing_from}
use Rattle.gic_fixed.proofs.Divisions.{positive_product}
use Rattle.gic_fixed.proofs.Enclosures.{Encloses-common, Encloses-add, Encloses-cancel, Encloses-scale, Encloses-div_out, Encloses-point}
use Rattle.gic_induce.specs.Fields.{zone_field}
use Rattle.gic_model.specs.declared.parts.Item.{Item}
use Rattle.gic_model.specs.Limits.{IsWithinLimits}
use Rattle.gic_model.specs.Network.{Network}
use Rattle.gic_model.specs.Earthing.{AreEarthed}
use Rattle.gic_model.specs.Solution.{Solution, IsSolution}
use Rattle.gic_model.specs.SolutionLaws.{combined}
use Rattle.gic_model.specs.Standing.{standing_elements}
use Rattle.gic_model.specs.Sums.{Placed}
use Rattle.gic_model.proofs.Superposition.{superposition}
use Rattle.gic_exists.proofs.InNetworks.{exists_in, agree_in}
use Rattle.gic_superpose.specs.Sums.{sum_below}
use Rattle.gic_superpose.specs.Superposed.{ZoneEnds, zone_at, low_part, high_part, zone_low, zone_high, sum_low, sum_high, sums_in_milli, superposed}
use Rattle.gic_superpose.specs.Quantities.{IsLinear, HoldsInZone, AreMadeOf}

-- a fraction that equals one in an interval, both over n times their denominators
equal_held : (lo hi a b : ℤ) (over d e : ℕ) → 0 < e → Encloses lo hi b (over * e) → a *ℤ pos e ≡ b *ℤ pos d → Encloses lo hi a (over * d)
equal_held lo hi a b over d e some held same =
    let more = Encloses-common lo hi b (over * e) d held in
    let turned : pos d *ℤ b ≡ pos e *ℤ a = *ℤ_comm (pos d) b ∙ sym same ∙ *ℤ_comm a (pos e) in
    let swapped : d * (over * e) ≡ e * (over * d) = omega arith in
    Encloses-cancel lo hi a (over * d) e some (subst (λ (m : ℕ). Encloses lo hi (pos e *ℤ a) m) swapped (subst (λ (z : ℤ). Encloses lo hi z (d * (over * e))) turned more))

-- the sum of two fractions over the product of their denominators
sum_held : (over : ℕ) (lo hi a : ℤ) (d : ℕ) (lo' hi' b : ℤ) (e : ℕ) → Encloses lo hi a (over * d) → Encloses lo' hi' b (over * e)
    → Encloses (lo +ℤ lo') (hi +ℤ hi') (pos e *ℤ a +ℤ pos d *ℤ b) (over * (d * e))
sum_held over lo hi a d lo' hi' b e first second =
    let one : e * (over * d) ≡ over * (d * e) = omega arith in
    let other : d * (over * e) ≡ over * (d * e) = omega arith in
    Encloses-add lo hi (pos e *ℤ a) lo' hi' (pos d *ℤ b) (over * (d * e))
    (subst (λ (m : ℕ). Encloses lo hi (pos e *ℤ a) m) one (Encloses-common lo hi a (over * d) e first))
    (subst (λ (m : ℕ). Encloses lo' hi' (pos d *ℤ b) m) other (Encloses-common lo' hi' b (over * e) d second))

-- over plain numbers
once : (z : ℤ) → pos 1 *ℤ z ≡ z
once z = omega (arith, ints)

none_times : (z : ℤ) → pos 0 *ℤ z ≡ pos 0
none_times z = *ℤ_comm (pos 0) z ∙ *ℤ-zero z

once_each : (x y : ℤ) → pos 1 *ℤ x +ℤ pos 1 *ℤ y ≡ x +ℤ y
once_each x y = ap₂ (λ a b. a +ℤ b) (once x) (once y)

none_each : (x y : ℤ) → pos 0 *ℤ x +ℤ pos 0 *ℤ y ≡ pos 0
none_each x y = ap₂ (λ a b. a +ℤ b) (none_times x) (none_times y)

out : (c e q : ℤ) → c *ℤ (e *ℤ q) ≡ e *ℤ (q *ℤ c)
out c e q = *ℤ_left_comm c e q ∙ ap (λ z. e *ℤ z) (*ℤ_comm c q)

-- n times as much and nothing else
times_only : (c x y : ℤ) → c *ℤ x +ℤ pos 0 *ℤ y ≡ c *ℤ x
times_only c x y = let none = none_times y in omega (arith, linear)

zero_from : (q m : ℤ) (d e : ℕ) → 0 < e → q *ℤ pos e ≡ m *ℤ pos d → m ≡ pos 0 → q ≡ pos 0
zero_from q m d e some same none =
    nothing_from e q some (*ℤ_comm (pos e) q ∙ same ∙ ap (λ z. z *ℤ pos d) none ∙ none_times (pos d))

module _ (network : Network) (stands : Item → Bool) (quantity : Solution → ℤ) (over : ℕ) (fields : List (ℤ × ℤ)) (north east : ℕ → ℕ → ℤ) (row : List ZoneEnds)
    (limits : IsWithinLimits network) (earthed : AreEarthed (standing_elements network stands)) (is_linear : IsLinear (standing_elements network stands) quantity)
    (held : (zone : ℕ) → zone < length fields → HoldsInZone (standing_elements network stands) (north zone) (east zone) quantity over (zone_at row zone)) where
  abbrev standing : List Placed
  standing = standing_elements network stands

  -- the voltages that the field of a zone gives, MOST_FIELD times
  abbrev zone_volts : ℕ → ℕ → ℤ
  zone_volts place zone = (zone_field fields zone).0 *ℤ north zone place +ℤ (zone_field fields zone).1 *ℤ east zone place

  -- those of the first n zones
  abbrev first_volts : ℕ → ℕ → ℤ
  first_volts n place = sum_below (zone_volts place) n

  abbrev low : ℕ → ℤ
  low zone = zone_low (zone_field fields zone) (zone_at row zone)

  abbrev high : ℕ → ℤ
  high zone = zone_high (zone_field fields zone) (zone_at row zone)

  agree : (volts : ℕ → ℤ) (one other : Solution) → IsSolution standing volts one → IsSolution standing volts other → quantity one *ℤ pos other.denominator ≡ quantity other *ℤ pos one.denominator
  agree volts one other first second = is_linear.agrees one other (agree_in network stands volts limits earthed one other first second)

  -- one zone alone
  module _ (n : ℕ) (less : n < length fields) (to_north to_east : Solution) (solves_north : IsSolution standing (north n) to_north) (solves_east : IsSolution standing (east n) to_east) where
    abbrev pub own : Solution
    own = combined (zone_field fields n).0 to_north (zone_field fields n).1 to_east

    own_solves : IsSolution standing (λ place. zone_volts place n) own
    own_solves = superposition standing (north n) (east n) to_north to_east (zone_field fields n).0 (zone_field fields n).1 solves_north solves_east

    own_held : Encloses (low n) (high n) (quantity own) (over * own.denominator)
    own_held =
        let a = (zone_field fields n).0 in
        let b = (zone_field fields n).1 in
        let zone = zone_at row n in
        let is : pos to_east.denominator *ℤ (quantity to_north *ℤ a) +ℤ pos to_north.denominator *ℤ (quantity to_east *ℤ b) ≡ quantity own =
        sym (is_linear.combines a b to_north to_east ∙ ap₂ (λ x y. x +ℤ y) (out a (pos to_east.denominator) (quantity to_north)) (out b (pos to_north.denominator) (quantity to_east))) in
        subst (λ (z : ℤ). Encloses (low n) (high n) z (over * (to_north.denominator * to_east.denominator))) is
        (sum_held over (low_part zone.north a) (high_part zone.north a) (quantity to_north *ℤ a) to_north.denominator (low_part zone.east b) (high_part zone.east b) (quantity to_east *ℤ b) to_east.denominator
        (Encloses-scale zone.north.low zone.north.high (quantity to_north) (over * to_north.denominator) a ((held n less).to_north to_north solves_north))
        (Encloses-scale zone.east.low zone.east.high (quantity to_east) (over * to_east.denominator) b ((held n less).to_east to_east solves_east)))

    own_above_0 : 0 < own.denominator
    own_above_0 = positive_product to_north.denominator to_east.denominator solves_north.denominator_above_0 solves_east.denominator_above_0

    -- with the zones before it
    module _ (before : Solution) (solves_before : IsSolution standing (first_volts n) before) (before_held : Encloses (sum_below low n) (sum_below high n) (quantity before) (over * before.denominator)) where
      abbrev pub both : Solution
      both = combined (pos 1) before (pos 1) own

      both_solves : IsSolution standing (first_volts (suc n)) both
      both_solves =
          subst (λ (v : ℕ → ℤ). IsSolution standing v both) (fun_ext (λ place. once_each (first_volts n place) (zone_volts place n)))
          (superposition standing (first_volts n) (λ place. zone_volts place n) before own (pos 1) (pos 1) solves_before own_solves)

      both_held : Encloses (sum_below low (suc n)) (sum_below high (suc n)) (quantity both) (over * both.denominator)
      both_held =
          subst (λ (z : ℤ). Encloses (sum_below low (suc n)) (sum_below high (suc n)) z (over * (before.denominator * own.denominator)))
          (sym (is_linear.combines (pos 1) (pos 1) before own ∙ once_each (pos own.denominator *ℤ quantity before) (pos before.denominator *ℤ quantity own)))
          (sum_held over (sum_below low n) (sum_below high n) (quantity before) before.denominator (low n) (high n) (quantity own) own.denominator before_held own_held)

      pub next_held : (s : Solution) → IsSolution standing (first_volts (suc n)) s → Encloses (sum_below low (suc n)) (sum_below high (suc n)) (quantity s) (over * s.denominator)
      next_held s solves =
          equal_held (sum_below low (suc n)) (sum_below high (suc n)) (quantity s) (quantity both) over s.denominator both.denominator
          (positive_product before.denominator own.denominator solves_before.denominator_above_0 own_above_0) both_held (agree (first_volts (suc n)) s both solves both_solves)

  so_far : (n : ℕ) → n ≤ length fields → (s : Solution) → IsSolution standing (first_volts n) s → Encloses (sum_below low n) (sum_below high n) (quantity s) (over * s.denominator)
  so_far zero within s solves =
      let zeroed = combined (pos 0) s (pos 0) s in
      let zero_solves : IsSolution standing (first_volts zero) zeroed = superposition standing (first_volts zero) (first_volts zero) s s (pos 0) (pos 0) solves solves in
      let zero_is = is_linear.combines (pos 0) (pos 0) s s ∙ none_each (pos s.denominator *ℤ quantity s) (pos s.denominator *ℤ quantity s) in
      let is = zero_from (quantity s) (quantity zeroed) s.denominator (s.denominator * s.denominator) (positive_product s.denominator s.denominator solves.denominator_above_0 solves.denominator_above_0)
      (agree (first_volts zero) s zeroed solves zero_solves) zero_is in
      subst (λ (z : ℤ). Encloses (pos 0) (pos 0) z (over * s.denominator)) (none_times (pos (over * s.denominator)) ∙ sym is) (Encloses-point (pos 0) (over * s.denominator))
  so_far (suc n) within s solves =
      let less : n < length fields = omega (arith, within) in
      let before = exists_in network stands (first_volts n) limits earthed in
      let to_north = exists_in network stands (north n) limits earthed in
      let to_east = exists_in network stands (east n) limits earthed in
      next_held n less to_north.solution to_east.solution to_north.solves to_east.solves before.solution before.solves (so_far n (omega (arith, within)) before.solution before.solves) s solves

  pub superposed_held : (volts : ℕ → ℤ) → AreMadeOf fields north east volts → (s : Solution) → IsSolution standing volts s
      → Encloses (superposed fields row).low (superposed fields row).high (quantity s) (1000000 * over * s.denominator)
  superposed_held volts made s solves =
      let often = combined (pos MOST_FIELD) s (pos 0) s in
      let often_solves : IsSolution standing (first_volts (length fields)) often =
      subst (λ (v : ℕ → ℤ). IsSolution standing v often) (fun_ext (λ place. times_only (pos MOST_FIELD) (volts place) (volts place) ∙ made place))
      (superposition standing volts volts s s (pos MOST_FIELD) (pos 0) solves solves) in
      let often_held = so_far (length fields) (omega arith) often often_solves in
      let d = s.denominator in
      let is : quantity often ≡ pos d *ℤ (pos MOST_FIELD *ℤ quantity s) =
      is_linear.combines (pos MOST_FIELD) (pos 0) s s ∙ times_only (pos MOST_FIELD) (pos d *ℤ quantity s) (pos d *ℤ quantity s) ∙ *ℤ_left_comm (pos MOST_FIELD) (pos d) (quantity s) in
      let out_of : over * (d * d) ≡ d * (over * d) = omega arith in
      let once_held : Encloses (sum_low fields row) (sum_high fields row) (pos MOST_FIELD *ℤ quantity s) (over * d) =
      Encloses-cancel (sum_low fields row) (sum_high fields row) (pos MOST_FIELD *ℤ quantity s) (over * d) d solves.denominator_above_0
      (subst (λ (m : ℕ). Encloses (sum_low fields row) (sum_high fields row) (pos d *ℤ (pos MOST_FIELD *ℤ quantity s)) m) out_of
      (subst (λ (z : ℤ). Encloses (sum_low fields row) (sum_high fields row) z (over * (d * d))) is often_held)) in
      let split : sums_in_milli * (over * d) ≡ MOST_FIELD * (1000000 * over * d) = omega arith in
      Encloses-cancel (superposed fields row).low (superposed fields row).high (quantity s) (1000000 * over * d) MOST_FIELD (omega arith)
      (subst (λ (m : ℕ). Encloses (superposed fields row).low (superposed fields row).high (pos MOST_FIELD *ℤ quantity s) m) split
      (Encloses-div_out (sum_low fields row) (sum_high fields row) (pos MOST_FIELD *ℤ quantity s) (over * d) sums_in_milli (omega arith) once_held))
