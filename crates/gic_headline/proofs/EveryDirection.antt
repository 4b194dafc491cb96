-- Where a transformer's worst current is under a threshold, its current is in every direction.
use Rattle.std.proofs.Common.{ℕ, ◌+◌, ◌*◌, ◌<◌, ◌≤◌, ◌⊎◌, inl, inr, Bool, List, length, ℤ, pos, ◌*ℤ◌, unsigned_abs, arith}
use Rattle.std.proofs.lemmas.Bool.{cases_lt}
use Rattle.std.proofs.Math.Nat.{mul-le-mul_right}
use Rattle.gic_fixed.proofs.Divisions.{positive_product}
use Rattle.gic_case.specs.Sound.{IsSound}
use Rattle.gic_model.specs.declared.parts.Item.{Item}
use Rattle.gic_model.specs.Earthing.{AreEarthed}
use Rattle.gic_model.specs.Limits.{IsWithinLimits}
use Rattle.gic_model.specs.Network.{Network}
use Rattle.gic_model.specs.Standing.{standing_elements}
use Rattle.gic_model.specs.Sums.{Placed}
use Rattle.gic_criteria.specs.Worst.{square_of}
use Rattle.gic_criteria.proofs.Squares.{square-le, square-times}
use Rattle.gic_effective.specs.Weighted.{effective_numerator, effective_denominator}
use Rattle.gic_criteria.specs.declared.asked.Criteria.{Criteria}
use Rattle.gic_inputs.specs.declared.inputs.Inputs.{Inputs}
use Rattle.gic_uniform.proofs.Denominators.{some_denominator}
use Rattle.gic_worst.specs.RightRows.{IsWorstUnder, squared_worst}
use Rattle.gic_outage.specs.RightOutage.{northward_volts, eastward_volts}
use Rattle.gic_laws.specs.Orientation.{NoFieldGivesMore}
use Rattle.gic_headline.specs.Directions.{IsUnderInEveryDirection, strength_asked}
use Rattle.gic_headline.specs.Solved.{HasOneSolution}

-- over plain numbers: where (n k)² is at most w d², and w is under (T k)², n is under T d
under_by : (n d k w threshold : ℕ) → 0 < d → n * k * (n * k) ≤ w * (d * d) → w < threshold * k * (threshold * k) → ((n < threshold * d) ⊎ (threshold * d ≤ n)) → n < threshold * d
under_by n d k w threshold some most less (inl near) = near
under_by n d k w threshold some most less (inr far) =
    let side : threshold * d * k ≤ n * k = mul-le-mul_right k far in
    let squares = square-le (threshold * d * k) (n * k) side in
    let next : w + 1 ≤ threshold * k * (threshold * k) = omega (arith, less) in
    let more : (w + 1) * (d * d) ≤ threshold * k * (threshold * k) * (d * d) = mul-le-mul_right (d * d) next in
    let square : 0 < d * d = positive_product d d some some in
    omega (arith, squares, most, more, square)

under_of : (z : ℤ) (d k w threshold : ℕ) → 0 < d → square_of (z *ℤ pos k) ≤ w * square_of (pos d) → w < square_of (pos (threshold * k)) → unsigned_abs z < threshold * d
under_of z d k w threshold some most less =
    under_by (unsigned_abs z) d k w threshold some (omega (arith, most, square-times z k)) less (cases_lt (unsigned_abs z) (threshold * d))

module _ (law : NoFieldGivesMore) (inputs : Inputs Criteria) (sound : IsSound inputs.case) (network : Network) (stands : Item → Bool) (limits : IsWithinLimits network) where
  abbrev standing : List Placed
  standing = standing_elements network stands

  pub under_everywhere : AreEarthed standing → HasOneSolution standing (northward_volts inputs) → HasOneSolution standing (eastward_volts inputs)
      → (threshold t : ℕ) → t < length inputs.case.transformers → IsWorstUnder inputs.case standing (northward_volts inputs) (eastward_volts inputs) threshold t
      → IsUnderInEveryDirection inputs standing threshold t
  under_everywhere earthed north east threshold t inside under = λ to_north to_east parts s some within solves.
      let case = inputs.case in
      let one = north.exists.solution in
      let other = east.exists.solution in
      let most = law case network stands (strength_asked inputs) to_north to_east parts one other s t limits earthed
      (record { some_parts = some; in_north = north.exists.solves; in_east = east.exists.solves; in_both = solves }) within in
      let less = under one other (record { in_north = north.exists.solves; in_east = east.exists.solves }) in
      under_of (effective_numerator case s t) (effective_denominator case t s) (effective_denominator case t one * effective_denominator case t other)
      (squared_worst case t one other) threshold (some_denominator case t s sound inside solves.denominator_above_0) most less
