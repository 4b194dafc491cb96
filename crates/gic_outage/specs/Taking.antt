-- What the outages that were taken leave. For the contracts of this crate.
use Rattle.std.specs.Prelude.{◌≡◌, ℕ, ◌<◌, List, length, map, slice_get, slice_index_or, Option}
use Rattle.gic_fixed.specs.Ends.{Ends}
use Rattle.gic_model.specs.declared.parts.Item.{Item}
use Rattle.gic_net.specs.Net.{NetView, standing}
use Rattle.gic_view.specs.Peaks.{greater}
use Rattle.gic_winding.specs.ElementList.{elements_of}
use Rattle.gic_stand.specs.declared.fault.NetworkRefusal.{NetworkRefusal}
use Rattle.gic_stand.specs.declared.fault.NetworkRefusal.TheVariants as refusals
use Rattle.gic_criteria.specs.declared.asked.Criteria.{Criteria}
use Rattle.gic_inputs.specs.declared.inputs.Inputs.{Inputs}
use Rattle.gic_stand.specs.Standing.{standing_of}
use Rattle.gic_worst.specs.declared.fields.FieldVolts.{FieldVolts}
use Rattle.gic_worst.specs.Rows.{ScreenRowView}
use Rattle.gic_worst.specs.Screening.{AreOfEvent}
use Rattle.gic_outage.specs.declared.outcome.OutageOutcome.{OutageOutcome}
use Rattle.gic_outage.specs.declared.outcome.OutageOutcome.TheVariants.{Idle, Unearthed, Unresolved}
use Rattle.gic_outage.specs.Outages.{Outage, item_at, outage_at, worsts_of, greatest_worst, greatest_at}
use Rattle.gic_outage.specs.RightOutage.{EndsAs}

-- the network of the case with all switchings in force, and the voltages in the field of the event that is asked for
pub record AreGiven (inputs : Inputs Criteria) (net : NetView) (fields : FieldVolts) : Type 0 where
  pub network : net.network ≡ elements_of inputs.case
  pub stands : standing net ≡ standing_of inputs.case inputs.switchings
  pub volts : AreOfEvent inputs.case inputs.question.event fields

-- how an outage ends whose network is refused
abbrev pub outcome_of : NetworkRefusal → OutageOutcome
outcome_of (refusals.Unearthed step node) = Unearthed node
outcome_of (refusals.Unresolved step node) = Unresolved node

-- the worst intervals of rows
abbrev pub worsts_in : List ScreenRowView → List Ends
worsts_in rows = map (λ row. row.worst) rows

-- the greatest intervals of the transformers are raised by their worst intervals, where there are any
pub record AreRaisedBy (worsts : List Ends) (old new : List (Option Ends)) : Type 0 where
  pub count : length new ≡ length old
  pub each : (t : ℕ) → t < length old → greatest_at new t ≡ greater (greatest_at old t) (slice_get worsts t)

-- the outage of an item ended like this, and its worst intervals have raised the greatest ones
pub record HasEnded (inputs : Inputs Criteria) (item : Item) (outcome : OutageOutcome) (old new : List (Option Ends)) : Type 0 where
  pub worsts : List Ends
  pub ends : EndsAs inputs item worsts outcome
  pub raised : AreRaisedBy worsts old new

-- one list of outages is behind the first outcomes, this many, and the greatest intervals of the transformers
pub record HasTaken (inputs : Inputs Criteria) (count : ℕ) (outcomes : List OutageOutcome) (greatest : List (Option Ends)) : Type 0 where
  pub outages : List Outage
  pub one_each : length outages ≡ count
  pub ends : (place : ℕ) → place < count → EndsAs inputs (item_at inputs.case place) (outage_at outages place).worsts (outage_at outages place).outcome
  pub outcomes_are : (place : ℕ) → place < count → slice_index_or outcomes place Idle ≡ (outage_at outages place).outcome
  pub greatest_count : length greatest ≡ length inputs.case.transformers
  pub greatest_are : (t : ℕ) → t < length inputs.case.transformers → greatest_at greatest t ≡ greatest_worst (worsts_of outages t)
