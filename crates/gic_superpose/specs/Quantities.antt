-- Quantities of solutions that are linear, and what the theorem of superposed intervals says of them.
use Rattle.std.specs.Prelude.{ℕ, ◌≡◌, ◌*◌, ◌<◌, ◌≤◌, Bool, List, All, length, ℤ, pos, ◌+ℤ◌, ◌*ℤ◌}
use Rattle.gic_base.specs.declared.id.ElementId.{ElementId}
use Rattle.gic_base.specs.declared.limits.TheConstants.{MOST_FIELD, MOST_ZONES}
use Rattle.gic_fixed.specs.Encloses.{Encloses}
use Rattle.gic_fixed.specs.Ends.{Ends, IsAtMostWide}
use Rattle.gic_induce.specs.Fields.{IsField, zone_field}
use Rattle.gic_model.specs.declared.parts.Item.{Item}
use Rattle.gic_model.specs.Limits.{IsWithinLimits}
use Rattle.gic_model.specs.Network.{Network}
use Rattle.gic_model.specs.Earthing.{AreEarthed}
use Rattle.gic_model.specs.Solution.{Solution, IsSolution}
use Rattle.gic_model.specs.SolutionLaws.{combined}
use Rattle.gic_model.specs.Standing.{IsLive, standing_elements}
use Rattle.gic_model.specs.Sums.{Placed, sum_of}
use Rattle.gic_exists.specs.Exists.{Agree}
use Rattle.gic_superpose.specs.Sums.{sum_below}
use Rattle.gic_superpose.specs.Superposed.{ZoneEnds, zone_at, superposed, IsNarrowZone}

-- a number over the denominator of a solution: it is combined as solutions are, and is the same in solutions that agree
pub record IsLinear (standing : List Placed) (quantity : Solution → ℤ) : Type 0 where
  pub combines : (c d : ℤ) (one other : Solution) →
      quantity (combined c one d other) ≡ c *ℤ (pos other.denominator *ℤ quantity one) +ℤ d *ℤ (pos one.denominator *ℤ quantity other)
  pub agrees : (one other : Solution) → Agree standing one other → quantity one *ℤ pos other.denominator ≡ quantity other *ℤ pos one.denominator

-- the sum of the currents of windings, each times its own number
abbrev pub weighted_current : List (ElementId × ℕ) → Solution → ℤ
weighted_current windings s = sum_of (λ w. pos w.1 *ℤ s.current w.0.0) windings

-- the quantities that a view shows are linear: the potential of a live node, an element's current, and a weighted sum of currents
pub record ViewsAreLinear : Type 0 where
  pub potentials : (standing : List Placed) (k : ℕ) → IsLive standing k → IsLinear standing (λ s. s.potential k)
  pub currents : (standing : List Placed) (place : ℕ) → IsLinear standing (λ s. s.current place)
  pub weighted : (standing : List Placed) (windings : List (ElementId × ℕ)) → IsLinear standing (weighted_current windings)

-- the interval holds the quantity in every solution, where it is over `over` times the denominator
abbrev pub HoldsQuantity : List Placed → (volts : ℕ → ℤ) → (Solution → ℤ) → (over : ℕ) → Ends → Type 0
HoldsQuantity standing volts quantity over ends = (s : Solution) → IsSolution standing volts s → Encloses ends.low ends.high (quantity s) (over * s.denominator)

-- those of a zone hold it for the voltages of the zone's two base fields
pub record HoldsInZone (standing : List Placed) (north east : ℕ → ℤ) (quantity : Solution → ℤ) (over : ℕ) (zone : ZoneEnds) : Type 0 where
  pub to_north : HoldsQuantity standing north quantity over zone.north
  pub to_east : HoldsQuantity standing east quantity over zone.east

-- the voltages are a MOST_FIELD-th of what the fields make of those of the zones' base fields
abbrev pub AreMadeOf : List (ℤ × ℤ) → (north east : ℕ → ℕ → ℤ) → (volts : ℕ → ℤ) → Type 0
AreMadeOf fields north east volts = (place : ℕ) →
    pos MOST_FIELD *ℤ volts place ≡ sum_below (λ zone. (zone_field fields zone).0 *ℤ north zone place +ℤ (zone_field fields zone).1 *ℤ east zone place) (length fields)

-- where each live node is earthed, intervals in nanovolts or nanoamperes that hold a linear quantity in all base fields give one in millivolts or milliamperes that holds it in any fields
abbrev pub SuperposedIntervalsHold : Type 0
SuperposedIntervalsHold = (network : Network) (stands : Item → Bool) (quantity : Solution → ℤ) (over : ℕ) (fields : List (ℤ × ℤ)) (north east : ℕ → ℕ → ℤ) (volts : ℕ → ℤ) (row : List ZoneEnds) →
    let standing = standing_elements network stands in
    IsWithinLimits network → AreEarthed standing → IsLinear standing quantity → AreMadeOf fields north east volts →
    ((zone : ℕ) → zone < length fields → HoldsInZone standing (north zone) (east zone) quantity over (zone_at row zone)) →
    HoldsQuantity standing volts quantity (1000000 * over) (superposed fields row)

-- from intervals at most 1000 nanovolts or nanoamperes wide it is at most 2 millivolts or milliamperes wide
abbrev pub SuperposedIntervalsAreNarrow : Type 0
SuperposedIntervalsAreNarrow = (fields : List (ℤ × ℤ)) (row : List ZoneEnds) →
    length fields ≤ MOST_ZONES → All IsField fields → ((zone : ℕ) → zone < length fields → IsNarrowZone (zone_at row zone)) →
    IsAtMostWide 2 (superposed fields row).low (superposed fields row).high
