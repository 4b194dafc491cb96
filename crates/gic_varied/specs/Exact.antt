-- The reference enclosure in exact numbers: all that a reference, two lifts and an adjoint solution leave open of a weighted current.
use Rattle.std.specs.Prelude.{ℕ, ◌≡◌, ◌*◌, Bool, List, IsTrue, ℤ, pos, neg_ℤ, ◌-ℤ◌, ◌*ℤ◌}
use Rattle.std.specs.List.{All}
use Rattle.gic_model.specs.declared.parts.Item.{Item}
use Rattle.gic_model.specs.Earthing.{AreEarthed}
use Rattle.gic_model.specs.Limits.{IsWithinLimits}
use Rattle.gic_model.specs.Network.{Network}
use Rattle.gic_model.specs.Solution.{Solution, IsSolution}
use Rattle.gic_model.specs.Standing.{IsLive, standing_elements}
use Rattle.gic_model.specs.Sums.{Placed, sum_of}
use Rattle.gic_varied.specs.Grounds.{is_ground, grounds_among, HaveNoGroundVolts}
use Rattle.gic_varied.specs.Lifts.{AreLifts, IsLoweredAtMost, IsRaisedAtMost, with_least, with_most}
use Rattle.gic_varied.specs.Ranges.{Ranges, AreInRanges}
use Rattle.gic_varied.specs.Reciprocal.{current_by_weights}
use Rattle.gic_varied.specs.Strays.{IsStrayWithin}
use Rattle.gic_varied.specs.Varied.{IsVaried}

-- potentials over a denominator, where currents don't count
abbrev pub potentials_over : (ℕ → ℤ) → ℕ → Solution
potentials_over potential denominator = record { potential = potential; current = λ place. pos 0; denominator = denominator }

-- n/d is the reference's weighted current, and a part for each ground: Y g p of some potential p from P - x⁻ to P + x⁺ at its node and some g from the conductance of the greatest resistance less that of the least, up to 0
pub record IsInReferenceEnclosure (standing : List Placed) (ranges : Ranges) (weights : ℕ → ℤ) (reference lowering raising adjoint : Solution) (n : ℤ) (d : ℕ) : Type 0 where
  pub potential : ℕ → ℤ
  pub part : Placed → ℤ
  pub lowest : (k : ℕ) → IsLive standing k → IsLoweredAtMost (potentials_over potential d) reference lowering k
  pub highest : (k : ℕ) → IsLive standing k → IsRaisedAtMost (potentials_over potential d) reference raising k
  pub parts : All (λ p. IsTrue (is_ground p.1) →
      IsStrayWithin (ranges p.1) (p.1.times * 1000000) (ranges p.1).least (adjoint.potential p.1.from.0 *ℤ potential p.1.from.0) (part p)) standing
  pub sum : pos adjoint.denominator *ℤ (pos reference.denominator *ℤ n -ℤ pos d *ℤ current_by_weights standing weights reference) ≡
      pos reference.denominator *ℤ sum_of part (grounds_among standing)

-- where each live node is earthed, the weighted current of each varied solution is in it, with the grounds of reference and adjoint solution at their least
abbrev pub VariedCurrentsAreInReferenceEnclosure : Type 0
VariedCurrentsAreInReferenceEnclosure = (network : Network) (stands : Item → Bool) (ranges : Ranges) (volts weights lower raise : ℕ → ℤ) (reference varied lowering raising adjoint : Solution) →
    let standing = standing_elements network stands in
    IsWithinLimits network → AreEarthed standing → HaveNoGroundVolts standing volts → HaveNoGroundVolts standing weights →
    AreInRanges ranges (λ e. (ranges e).least) standing →
    IsSolution (standing_elements (with_least ranges network) stands) volts reference → IsVaried standing ranges volts varied →
    AreLifts standing ranges (λ e. (ranges e).least) (λ m. neg_ℤ (reference.potential m)) reference.denominator lower →
    AreLifts standing ranges (λ e. (ranges e).least) reference.potential reference.denominator raise →
    IsSolution (standing_elements (with_most ranges network) stands) lower lowering →
    IsSolution (standing_elements (with_most ranges network) stands) raise raising →
    IsSolution (standing_elements (with_least ranges network) stands) weights adjoint →
    IsInReferenceEnclosure standing ranges weights reference lowering raising adjoint (current_by_weights standing weights varied) varied.denominator
