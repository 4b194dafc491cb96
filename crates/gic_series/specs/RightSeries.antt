-- What a report of the mode has to say.
use Rattle.std.specs.Prelude.{◌≡◌, ℕ, ◌-◌, List, length}
use Rattle.gic_case.specs.Lists.{Lists}
use Rattle.gic_storm.specs.Steps.{steps_in, time_of_step}
use Rattle.gic_text.specs.Lines.{lines_text}
use Rattle.gic_winding.specs.Weights.{transformer_at}
use Rattle.gic_fixed.specs.Ends.{IsAtMostWide}
use Rattle.gic_effective.specs.RightView.{IsRightEffective}
use Rattle.gic_inputs.specs.declared.inputs.StormInputs.{StormInputs}
use Rattle.gic_course.specs.Steps.{IsStepOf, standing_at_step, storm_volts}
use Rattle.gic_series.specs.Rows.{SeriesRowView, series_row_at}
use Rattle.gic_series.specs.SeriesText.{series_report}

-- the text of a report of these rows of the transformer at a place
abbrev pub series_text : Lists → (width transformer : ℕ) → List SeriesRowView → List ℕ
series_text case width transformer rows = lines_text (series_report width (transformer_at case transformer).name rows)

-- the row tells the step's number and its time; its interval holds the transformer's signed effective current in every solution of the step, and is no wider than asked
pub record IsRightSeriesRow (inputs : StormInputs) (transformer number : ℕ) (row : SeriesRowView) : Type 0 where
  pub number_is : row.number ≡ number
  pub time_is : row.time ≡ time_of_step inputs.storm.rows number
  pub right : IsRightEffective inputs.case (standing_at_step inputs number) (storm_volts inputs number) transformer row.effective
  pub narrow : IsAtMostWide inputs.question.width row.effective.low row.effective.high

-- one right row a step, in order
pub record AreRightRows (inputs : StormInputs) (transformer : ℕ) (rows : List SeriesRowView) : Type 0 where
  pub one_each : length rows ≡ length (steps_in inputs.storm.rows)
  pub right : (number : ℕ) → IsStepOf inputs number → IsRightSeriesRow inputs transformer number (series_row_at rows (number - 1))

-- the text is that of such rows, with the name of the transformer and the width that is asked for
pub record IsRightSeries (inputs : StormInputs) (transformer : ℕ) (text : List ℕ) : Type 0 where
  pub rows : List SeriesRowView
  pub right : AreRightRows inputs transformer rows
  pub text_is : text ≡ series_text inputs.case inputs.question.width transformer rows
