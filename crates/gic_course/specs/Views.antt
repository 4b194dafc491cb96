-- When the views of the steps of a storm are right.
use Rattle.std.specs.Prelude.{ℕ, ℤ, suc, ◌≡◌, ◌<◌, List, All, length, slice_index_or}
use Rattle.gic_case.specs.Lists.{Lists}
use Rattle.gic_induce.specs.LineVolts.{volts_of}
use Rattle.gic_model.specs.Limits.{AreVolts}
use Rattle.gic_model.specs.Sums.{Placed}
use Rattle.gic_model.specs.Voltages.{number_at}
use Rattle.gic_storm.specs.Steps.{steps_in, time_of_step}
use Rattle.gic_view.specs.View.{View}
use Rattle.gic_view.specs.Absolute.{HasAbsolute}
use Rattle.gic_view.specs.Kept.{blank_view}
use Rattle.gic_winding.specs.ElementList.{elements_of}
use Rattle.gic_effective.specs.RightView.{IsRightView}
use Rattle.gic_effective.specs.Narrow.{IsNarrowView}
use Rattle.gic_uniform.specs.Solving.{IsSmallView, IsSolvedView}
use Rattle.gic_inputs.specs.declared.inputs.StormInputs.{StormInputs}
use Rattle.gic_course.specs.Steps.{standing_at_step, storm_volts}

-- what the view shows is right for these standing elements and the voltages of these fields, which are within their limits; no interval of it is wider than this, and its effective currents have absolute values
pub record IsShownIn (case : Lists) (standing : List Placed) (fields : List (ℤ × ℤ)) (width : ℕ) (view : View) : Type 0 where
  pub right : IsRightView case standing (number_at (volts_of case fields (elements_of case).list)) view
  pub narrow : IsNarrowView case width view
  pub absolutes : All HasAbsolute view.effective
  pub driven : AreVolts (number_at (volts_of case fields (elements_of case).list))

-- the view tells the step's number and its time, and what it shows is right for the elements and the voltages of the step
pub record IsRightStep (inputs : StormInputs) (step : ℕ) (view : View) : Type 0 where
  pub number : view.number ≡ step
  pub time : view.time ≡ time_of_step inputs.storm.rows step
  pub right : IsRightView inputs.case (standing_at_step inputs step) (storm_volts inputs step) view

-- the same of a view that is solved: no interval of it is wider than this, and no effective current is beyond 2^52 mA per phase
pub record IsSolvedStep (inputs : StormInputs) (width step : ℕ) (view : View) : Type 0 where
  pub number : view.number ≡ step
  pub time : view.time ≡ time_of_step inputs.storm.rows step
  pub solved : IsSolvedView inputs.case (standing_at_step inputs step) (storm_volts inputs step) width view

-- the view at a place; one without places past the end
abbrev pub view_at : List View → (place : ℕ) → View
view_at views place = slice_index_or views place (blank_view 0 0 0)

-- the views are right for the first steps, as many as there are views
abbrev pub AreRightSoFar : StormInputs → List View → Type 0
AreRightSoFar inputs views = (place : ℕ) → place < length views → IsRightStep inputs (suc place) (view_at views place)

-- they are right for all steps of the storm
pub record AreRightViews (inputs : StormInputs) (views : List View) : Type 0 where
  pub one_each : length views ≡ length (steps_in inputs.storm.rows)
  pub right : AreRightSoFar inputs views

-- no interval of any of them is wider than this
abbrev pub AreNarrowViews : Lists → (width : ℕ) → List View → Type 0
AreNarrowViews case width views = All (IsNarrowView case width) views

-- no effective current of any of them is beyond 2^52 mA per phase
abbrev pub AreSmallViews : Lists → List View → Type 0
AreSmallViews case views = All (IsSmallView case) views
