-- Views of superposed intervals, and what the theorem says of them.
use Rattle.std.specs.Prelude.{ℕ, ◌≡◌, ◌≤◌, ◌<◌, Bool, Option, None, Some, List, All, length, ℤ, if◌then◌else◌}
use Rattle.gic_base.specs.declared.limits.TheConstants.{MOST_ZONES}
use Rattle.gic_case.specs.Lists.{Lists, node_names}
use Rattle.gic_fixed.specs.Ends.{Ends, IsAtMostWide}
use Rattle.gic_induce.specs.Fields.{IsField}
use Rattle.gic_induce.specs.LineVolts.{volts_of}
use Rattle.gic_model.specs.declared.parts.Item.{Item}
use Rattle.gic_model.specs.Earthing.{AreEarthed}
use Rattle.gic_model.specs.Limits.{IsWithinLimits}
use Rattle.gic_model.specs.Standing.{is_live, is_standing, standing_elements}
use Rattle.gic_model.specs.Sums.{Placed}
use Rattle.gic_model.specs.Voltages.{number_at}
use Rattle.gic_view.specs.View.{View, node_at, element_at, effective_at}
use Rattle.gic_winding.specs.ElementList.{elements_of}
use Rattle.gic_effective.specs.Narrow.{IsNarrowView}
use Rattle.gic_effective.specs.RightView.{IsRightView, IsRightEffective}
use Rattle.gic_effective.specs.ViewLengths.{HasViewLengths}
use Rattle.gic_superpose.specs.Superposed.{superposed}
use Rattle.gic_base_views.specs.BaseRows.{BaseRows, AreCertifiedRows}

-- an interval where something shows, and none elsewhere
abbrev pub shown_where : Bool → Ends → Option Ends
shown_where shows ends = if shows then Some ends else None

-- the view shows the superposed intervals of the rows for these fields
pub record IsSuperposedView (case : Lists) (standing : List Placed) (fields : List (ℤ × ℤ)) (rows : BaseRows) (view : View) : Type 0 where
  pub lengths : HasViewLengths case view
  pub nodes : (k : ℕ) → k < length (node_names case) → node_at view k ≡ shown_where (is_live standing k) (superposed fields (rows.nodes k))
  pub elements : (place : ℕ) → place < length (elements_of case).list →
      element_at view place ≡ shown_where (is_standing standing place) (superposed fields (rows.elements place))
  pub effective : (t : ℕ) → t < length case.transformers → effective_at view t ≡ superposed fields (rows.effective t)

-- fields of the case's zones, within their limits
pub record AreFieldsOf (case : Lists) (fields : List (ℤ × ℤ)) : Type 0 where
  pub zones : length fields ≡ length case.zones
  pub few : length fields ≤ MOST_ZONES
  pub within : All IsField fields

-- of a network within its limits in which each live node is earthed, and fields of the case's zones: a view of intervals that are superposed from certified rows is right for the voltages of the fields, and no interval of it is wider than a width from 2 on
abbrev pub SuperposedViewsAreRight : Type 0
SuperposedViewsAreRight = (case : Lists) (stands : Item → Bool) (fields : List (ℤ × ℤ)) (rows : BaseRows) (view : View) (width : ℕ) →
    let standing = standing_elements (elements_of case) stands in
    IsWithinLimits (elements_of case) → AreEarthed standing → AreFieldsOf case fields → AreCertifiedRows case standing rows →
    IsSuperposedView case standing fields rows view → 2 ≤ width →
    IsRightView case standing (number_at (volts_of case fields (elements_of case).list)) view × IsNarrowView case width view

-- of the same: a transformer's interval that is superposed from its certified row is right for the voltages of the fields, and no wider than a width from 2 on
abbrev pub SuperposedEffectiveIsRight : Type 0
SuperposedEffectiveIsRight = (case : Lists) (stands : Item → Bool) (fields : List (ℤ × ℤ)) (rows : BaseRows) (t width : ℕ) →
    let standing = standing_elements (elements_of case) stands in
    let interval = superposed fields (rows.effective t) in
    IsWithinLimits (elements_of case) → AreEarthed standing → AreFieldsOf case fields →
    AreCertifiedRows case standing rows → t < length case.transformers → 2 ≤ width →
    IsRightEffective case standing (number_at (volts_of case fields (elements_of case).list)) t interval × IsAtMostWide width interval.low interval.high
