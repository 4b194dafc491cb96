-- How far the first two intervals of a transformer in a right report end beyond the reference enclosure in exact numbers: at most 10 mA, the least width that can be asked for.
use Rattle.std.specs.Prelude.{ℕ, ◌≡◌, ◌*◌, ◌≤◌, ◌<◌, Bool, true, false, List, length, IsFalse, ℤ, pos, ◌+ℤ◌, ◌-ℤ◌, ◌*ℤ◌, ◌≤ℤ◌}
use Rattle.std.specs.List.{All}
use Rattle.gic_base.specs.declared.limits.TheConstants.{MOST_WALK}
use Rattle.gic_case.specs.Sound.{IsSound}
use Rattle.gic_effective.specs.RightView.{HasNoEffect}
use Rattle.gic_fixed.specs.Ends.{Ends}
use Rattle.gic_induce.specs.LineVolts.{volts_of}
use Rattle.gic_model.specs.declared.parts.Item.{Item}
use Rattle.gic_model.specs.declared.parts.Item.TheVariants.{Line, Ground, Transformer, Neutral}
use Rattle.gic_model.specs.Bound.{IsEarthedWithin}
use Rattle.gic_model.specs.Earthing.{AreEarthed}
use Rattle.gic_model.specs.Limits.{IsWithinLimits, AreVolts}
use Rattle.gic_model.specs.Standing.{stands_after}
use Rattle.gic_model.specs.Sums.{Placed}
use Rattle.gic_model.specs.Voltages.{number_at}
use Rattle.gic_varied.specs.Certified.{Units}
use Rattle.gic_varied.specs.Near.{ExactSolutions, AreExact, AreExactParts, exact_enclosure, current_unit}
use Rattle.gic_varied.specs.Reciprocal.{weights_from}
use Rattle.gic_winding.specs.ElementList.{elements_of}
use Rattle.gic_winding.specs.Weights.{transformer_at, weighted_windings}
use Rattle.gic_worst.specs.Rows.{ScreenRowView}
use Rattle.gic_grounds.specs.Scale.{weight_times, units_of}
use Rattle.gic_grounds.specs.Tolerated.{Tolerated, ranges_in, own_in, least_in}
use Rattle.gic_robust.specs.RightRobust.{IsRobustRow}

-- whether an item is a line
abbrev pub is_line : Item → Bool
is_line (Line place) = true
is_line (Ground place) = false
is_line (Transformer place) = false
is_line (Neutral place) = false

-- no standing element has a voltage but lines, as in a field
abbrev pub HaveLineVoltsAlone : List Placed → (volts : ℕ → ℤ) → Type 0
HaveLineVoltsAlone standing volts = All (λ p. IsFalse (is_line p.1.item) → volts p.0 ≡ pos 0) standing

-- so it is in every field
abbrev pub FieldsDriveLinesAlone : Type 0
FieldsDriveLinesAlone = (v : Tolerated) (fields : List (ℤ × ℤ)) → HaveLineVoltsAlone (own_in v) (number_at (volts_of v.case fields (elements_of v.case).list))

-- the voltages of a transformer's weights, each volt of which is so many nanovolts
abbrev pub weights_in : Tolerated → (unit t : ℕ) → ℕ → ℤ
weights_in v unit t = weights_from (weight_times (transformer_at v.case t).high_volts unit) (weighted_windings v.case t)

-- the units in which a transformer's row is made
abbrev pub units_in : Tolerated → (unit t : ℕ) → Units
units_in v unit t = units_of (transformer_at v.case t).high_volts unit

-- a sound case that can be solved with its grounds at their least, and voltages of its lines within their limit
pub record IsStudiedIn (v : Tolerated) (volts : ℕ → ℤ) : Type 0 where
  pub sound : IsSound v.case
  pub limits : IsWithinLimits (elements_of v.case)
  pub earthed : AreEarthed (own_in v)
  pub within : IsEarthedWithin (least_in v) MOST_WALK
  pub percent : v.percent ≤ 90
  pub volts_limit : AreVolts volts
  pub lines_alone : HaveLineVoltsAlone (own_in v) volts

-- exact numbers of a transformer's current for these voltages
pub record AreExactOf (v : Tolerated) (volts : ℕ → ℤ) (unit t : ℕ) (exact : ExactSolutions) (parts : Placed → Ends) : Type 0 where
  pub solve : AreExact (elements_of v.case) (stands_after v.rows) (ranges_in v) volts (weights_in v unit t) exact
  pub parts_are : AreExactParts (own_in v) (ranges_in v) exact parts

-- an interval in milliamperes ends at most ten beyond the exact one, of which `one` is a nanoampere
pub record IsWithinTen (one : ℕ) (exact ends : Ends) : Type 0 where
  pub low : exact.low ≤ℤ ((ends.low +ℤ pos 10) *ℤ pos (1000000 * one))
  pub high : ((ends.high -ℤ pos 10) *ℤ pos (1000000 * one)) ≤ℤ exact.high

-- a transformer's interval for these voltages, with all exact numbers over which the parts are whole
abbrev pub IsNearReference : Tolerated → (volts : ℕ → ℤ) → (unit t : ℕ) → (ends : Ends) → Type 0
IsNearReference v volts unit t ends = (exact : ExactSolutions) (parts : Placed → Ends) →
    AreExactOf v volts unit t exact parts →
    IsWithinTen (current_unit (units_in v unit t) * (exact.reference.denominator * exact.reference.denominator))
    (exact_enclosure (own_in v) (weights_in v unit t) exact parts) ends

-- the first two intervals of a row that is made of references in this unit
pub record IsNearRow (v : Tolerated) (north east : ℕ → ℤ) (unit t : ℕ) (row : ScreenRowView) : Type 0 where
  pub to_north : IsNearReference v north unit t row.north
  pub to_east : IsNearReference v east unit t row.east

-- so is each row of a right report, where a winding that stands has a weight
abbrev pub RowsAreNearReference : Type 0
RowsAreNearReference = (v : Tolerated) (north east : ℕ → ℤ) (t : ℕ) (row : ScreenRowView) → t < length v.case.transformers →
    IsStudiedIn v north → IsStudiedIn v east →
    (right : IsRobustRow v north east t row) → (HasNoEffect v.case (own_in v) t → ⊥) → IsNearRow v north east right.references.unit t row
