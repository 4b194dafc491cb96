-- How far potentials reach: no further than what the voltages add up to, and lifts no further than the greatest of their voltages. And what listed weights add up to.
use Rattle.std.specs.Prelude.{ℕ, ◌≡◌, ◌*◌, ◌≤◌, Bool, List, IsFalse, ℤ, pos, neg_ℤ, ◌≤ℤ◌, unsigned_abs}
use Rattle.std.specs.List.{All, sum_by}
use Rattle.gic_model.specs.declared.parts.Item.{Item}
use Rattle.gic_model.specs.Earthing.{AreEarthed}
use Rattle.gic_model.specs.Limits.{IsWithinLimits}
use Rattle.gic_model.specs.Network.{Network}
use Rattle.gic_model.specs.Solution.{Solution, IsSolution}
use Rattle.gic_model.specs.Standing.{IsLive, standing_elements}
use Rattle.gic_model.specs.Sums.{Placed}
use Rattle.gic_base.specs.declared.id.ElementId.{ElementId}
use Rattle.gic_varied.specs.Grounds.{is_ground}
use Rattle.gic_varied.specs.Reciprocal.{weights_from}

-- voltages at grounds alone, each from -most to 0
pub record AreLiftsWithin (standing : List Placed) (most : ℕ) (lifts : ℕ → ℤ) : Type 0 where
  pub elsewhere : All (λ p. IsFalse (is_ground p.1) → lifts p.0 ≡ pos 0) standing
  pub not_above_0 : All (λ p. lifts p.0 ≤ℤ pos 0) standing
  pub not_below : All (λ p. neg_ℤ (pos most) ≤ℤ lifts p.0) standing

-- where each live node is earthed, such voltages lift no live node's potential above `most`, and let none below 0
abbrev pub LiftsReachNoFurther : Type 0
LiftsReachNoFurther = (network : Network) (stands : Item → Bool) (most : ℕ) (lifts : ℕ → ℤ) (lift : Solution) (k : ℕ) →
    let standing = standing_elements network stands in
    IsWithinLimits network → AreEarthed standing → AreLiftsWithin standing most lifts → IsSolution standing lifts lift → IsLive standing k →
    (pos 0 ≤ℤ lift.potential k) × (lift.potential k ≤ℤ pos (most * lift.denominator))

-- there no live node's potential is further from 0 than the voltages of all standing elements add up to, whatever they are
abbrev pub PotentialsReachNoFurther : Type 0
PotentialsReachNoFurther = (network : Network) (stands : Item → Bool) (volts : ℕ → ℤ) (s : Solution) (k : ℕ) →
    let standing = standing_elements network stands in
    IsWithinLimits network → AreEarthed standing → IsSolution standing volts s → IsLive standing k →
    unsigned_abs (s.potential k) ≤ sum_by (λ p. unsigned_abs (volts p.0)) standing * s.denominator

-- over the standing elements weights that are listed add up to at most so many times what the list adds up to, since each place is that of one element at most
abbrev pub ListedWeightsAddUp : Type 0
ListedWeightsAddUp = (network : Network) (stands : Item → Bool) (times : ℕ) (windings : List (ElementId × ℕ)) →
    sum_by (λ p. unsigned_abs (weights_from times windings p.0)) (standing_elements network stands) ≤ times * sum_by (λ w. w.1) windings
