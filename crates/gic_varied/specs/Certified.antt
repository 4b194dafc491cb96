-- What follows of certain intervals: those of a reference and of an adjoint solution in the network at a corner of the ranges of its grounds, and of two lifts in that with its grounds at their greatest.
use Rattle.std.specs.Prelude.{ℕ, ◌≡◌, ◌*◌, ◌^◌, ◌<◌, Bool, List, ℤ, pos, ◌*ℤ◌, if◌then◌else◌}
use Rattle.std.specs.List.{All}
use Rattle.gic_fixed.specs.Encloses.{Encloses}
use Rattle.gic_fixed.specs.Ends.{Ends}
use Rattle.gic_fixed.specs.Rounding.{floor_div, ceil_div}
use Rattle.gic_model.specs.declared.parts.Item.{Item}
use Rattle.gic_model.specs.Earthing.{AreEarthed}
use Rattle.gic_model.specs.Limits.{IsWithinLimits}
use Rattle.gic_model.specs.Network.{Network}
use Rattle.gic_model.specs.Solution.{Solution, IsSolution}
use Rattle.gic_model.specs.Standing.{IsLive, standing_elements}
use Rattle.gic_model.specs.Sums.{Placed}
use Rattle.gic_varied.specs.Corners.{Corner, corner_ohm, with_corner, raising_height, lowering_height}
use Rattle.gic_varied.specs.Enclosure.{lift_volt, varied_ends, product_ends, enclosure_of}
use Rattle.gic_varied.specs.Grounds.{is_ground, HaveNoGroundVolts}
use Rattle.gic_varied.specs.Lifts.{with_most}
use Rattle.gic_varied.specs.Ranges.{Ranges, AreInRanges}
use Rattle.gic_varied.specs.Reciprocal.{current_by_weights}
use Rattle.gic_varied.specs.Varied.{IsVaried}

-- voltages of the elements: those of the field, the weights, and those of the lift that lowers and of the one that raises
pub record Voltages : Type 0 where
  pub field : ℕ → ℤ
  pub weights : ℕ → ℤ
  pub lowering : ℕ → ℤ
  pub raising : ℕ → ℤ

-- units of potentials and of adjoint potentials, each so many nanovolts, and how many of their products make a unit of the weighted current
pub record Units : Type 0 where
  pub potential : ℕ
  pub adjoint : ℕ
  pub stray : ℕ

-- intervals of the nodes' potentials in these four, and of the reference's weighted current
pub record Intervals : Type 0 where
  pub reference : ℕ → Ends
  pub adjoint : ℕ → Ends
  pub lowering : ℕ → Ends
  pub raising : ℕ → Ends
  pub own : Ends

-- in every solution for these voltages each live node's potential lies in its interval, in units of so many nanovolts
abbrev pub HoldPotentials : List Placed → (volts : ℕ → ℤ) → (unit : ℕ) → (ends : ℕ → Ends) → Type 0
HoldPotentials standing volts unit ends = (s : Solution) → IsSolution standing volts s → (k : ℕ) → IsLive standing k → Encloses (ends k).low (ends k).high (s.potential k) (unit * s.denominator)

-- an interval in grains of 2^-36 nanovolt, in units of so many nanovolts, rounded outward
abbrev pub in_units : (unit : ℕ) → Ends → Ends
in_units unit grains = record { low = floor_div grains.low (pos (2 ^ 36 * unit)); high = ceil_div grains.high (pos (2 ^ 36 * unit)) }

-- intervals in grains that hold every solution, as the solver has them, hold it in such units
abbrev pub GrainsHoldInUnits : Type 0
GrainsHoldInUnits = (standing : List Placed) (volts : ℕ → ℤ) (unit : ℕ) (grains : ℕ → Ends) → 0 < unit →
    ((s : Solution) → IsSolution standing volts s → (k : ℕ) → IsLive standing k → Encloses (grains k).low (grains k).high (pos (2 ^ 36) *ℤ s.potential k) s.denominator) →
    HoldPotentials standing volts unit (λ k. in_units unit (grains k))

-- the voltages are those of a lift at each ground, over the height of its node, and 0 elsewhere
abbrev pub AreLiftVolts : List Placed → Ranges → (high : ℕ → ℤ) → (volts : ℕ → ℤ) → Type 0
AreLiftVolts standing ranges high volts = All (λ p. volts p.0 ≡ (if is_ground p.1 then lift_volt (ranges p.1) (high p.1.from.0) else pos 0)) standing

-- the intervals hold every solution for these voltages; a lift's nanovolt stands for a unit of potentials
pub record AreCertified (network : Network) (stands : Item → Bool) (ranges : Ranges) (corner : Corner) (given : Voltages) (units : Units) (ends : Intervals) : Type 0 where
  pub field : HaveNoGroundVolts (standing_elements network stands) given.field
  pub weights : HaveNoGroundVolts (standing_elements network stands) given.weights
  pub lowering_volts : AreLiftVolts (standing_elements network stands) ranges (lowering_height corner ends.reference) given.lowering
  pub raising_volts : AreLiftVolts (standing_elements network stands) ranges (raising_height corner ends.reference) given.raising
  pub reference : HoldPotentials (standing_elements (with_corner ranges corner network) stands) given.field units.potential ends.reference
  pub adjoint : HoldPotentials (standing_elements (with_corner ranges corner network) stands) given.weights units.adjoint ends.adjoint
  pub lowering : HoldPotentials (standing_elements (with_most ranges network) stands) given.lowering 1 ends.lowering
  pub raising : HoldPotentials (standing_elements (with_most ranges network) stands) given.raising 1 ends.raising
  pub own : (s : Solution) → IsSolution (standing_elements (with_corner ranges corner network) stands) given.field s →
      Encloses ends.own.low ends.own.high (current_by_weights (standing_elements network stands) given.weights s) (units.stray * (units.adjoint * units.potential) * s.denominator)

-- the interval of Y P' at a ground
abbrev pub product_at : Intervals → Placed → Ends
product_at ends p =
    let k = p.1.from.0 in
    product_ends (ends.adjoint k) (varied_ends (ends.reference k) (ends.lowering k) (ends.raising k))

-- that of a weighted current, with the grounds of the reference at this corner
abbrev pub certified_enclosure : List Placed → Ranges → Corner → Units → Intervals → Ends
certified_enclosure standing ranges corner units ends = enclosure_of standing ranges (corner_ohm ranges corner) units.stray (product_at ends) ends.own

-- where each live node is earthed it holds the weighted current of every varied solution
abbrev pub CertifiedEnclosuresHold : Type 0
CertifiedEnclosuresHold = (network : Network) (stands : Item → Bool) (ranges : Ranges) (corner : Corner) (given : Voltages) (units : Units) (ends : Intervals) (varied : Solution) →
    let standing = standing_elements network stands in
    IsWithinLimits network → IsWithinLimits (with_corner ranges corner network) → IsWithinLimits (with_most ranges network) → AreEarthed standing →
    AreInRanges ranges (corner_ohm ranges corner) standing → 0 < units.stray →
    AreCertified network stands ranges corner given units ends → IsVaried standing ranges given.field varied →
    let enclosure = certified_enclosure standing ranges corner units ends in
    Encloses enclosure.low enclosure.high (current_by_weights standing given.weights varied) (units.stray * (units.adjoint * units.potential) * varied.denominator)
