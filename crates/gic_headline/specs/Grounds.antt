-- The network of a case with other resistances at its grounds.
use Rattle.std.specs.Prelude.{ℕ, ◌<◌, List, length}
use Rattle.gic_model.specs.declared.parts.Element.{Element}
use Rattle.gic_model.specs.Solution.{Solution, IsSolution}
use Rattle.gic_model.specs.Standing.{standing_elements, stands_after}
use Rattle.gic_model.specs.Sums.{Placed}
use Rattle.gic_fixed.specs.Encloses.{Encloses}
use Rattle.gic_varied.specs.EachGround.{HasGroundsInRanges}
use Rattle.gic_varied.specs.Grounds.{with_grounds}
use Rattle.gic_winding.specs.ElementList.{elements_of}
use Rattle.gic_effective.specs.Weighted.{effective_numerator, effective_denominator}
use Rattle.gic_criteria.specs.Event.{threshold_of}
use Rattle.gic_criteria.specs.declared.asked.Criteria.{Criteria}
use Rattle.gic_criteria.specs.declared.asked.RobustCriteria.{RobustCriteria}
use Rattle.gic_inputs.specs.Inputs.{rows_in}
use Rattle.gic_inputs.specs.declared.inputs.Inputs.{Inputs}
use Rattle.gic_worst.specs.RightRows.{IsTrueVerdict}
use Rattle.gic_worst.specs.Rows.{ScreenRowView, screen_row_at}
use Rattle.gic_grounds.specs.Tolerated.{ranges_in}
use Rattle.gic_outage.specs.RightOutage.{northward_volts, eastward_volts}
use Rattle.gic_robust.specs.Steps.{tolerated_of}
use Rattle.gic_headline.specs.Directions.{HasWorstDirection}

-- what `screen` would be given of the same network
abbrev pub screened : Inputs RobustCriteria → Inputs Criteria
screened inputs = record { case = inputs.case; switchings = inputs.switchings; question = inputs.question.criteria }

-- a resistance of its range for each ground of the case, in micro-ohm
abbrev pub AreGroundsOf : Inputs RobustCriteria → (ohm : Element → ℕ) → Type 0
AreGroundsOf inputs = HasGroundsInRanges (elements_of inputs.case) (ranges_in (tolerated_of inputs))

-- what stands, with these resistances at the grounds
abbrev pub standing_with : Inputs RobustCriteria → (ohm : Element → ℕ) → List Placed
standing_with inputs ohm = standing_elements (with_grounds ohm (elements_of inputs.case)) (stands_after (rows_in inputs.switchings))

-- with these resistances, whatever solves the network: the intervals to the north and to the east hold a transformer's currents in the event's field, and the verdict on its worst current is true
pub record IsTrueRow (inputs : Inputs RobustCriteria) (ohm : Element → ℕ) (t : ℕ) (row : ScreenRowView) : Type 0 where
  pub to_north : (s : Solution) → IsSolution (standing_with inputs ohm) (northward_volts (screened inputs)) s →
      Encloses row.north.low row.north.high (effective_numerator inputs.case s t) (effective_denominator inputs.case t s)
  pub to_east : (s : Solution) → IsSolution (standing_with inputs ohm) (eastward_volts (screened inputs)) s →
      Encloses row.east.low row.east.high (effective_numerator inputs.case s t) (effective_denominator inputs.case t s)
  pub verdict : IsTrueVerdict inputs.case (standing_with inputs ohm) (northward_volts (screened inputs)) (eastward_volts (screened inputs)) (threshold_of inputs.question.criteria.event) t row.worst

-- so for each transformer; and no direction of the event's field gives more than the worst current
pub record AreTrueWith (inputs : Inputs RobustCriteria) (rows : List ScreenRowView) (ohm : Element → ℕ) : Type 0 where
  pub each : (t : ℕ) → t < length inputs.case.transformers → IsTrueRow inputs ohm t (screen_row_at rows t)
  pub directions : HasWorstDirection (screened inputs) (standing_with inputs ohm)
