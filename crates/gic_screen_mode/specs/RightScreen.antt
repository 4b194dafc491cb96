-- What a report of the mode has to say.
use Rattle.std.specs.Prelude.{◌≡◌, ℕ, List, ℤ, pos}
use Rattle.gic_case.specs.Lists.{Lists}
use Rattle.gic_model.specs.Sums.{Placed}
use Rattle.gic_criteria.specs.Event.{threshold_of, field_of}
use Rattle.gic_text.specs.Lines.{lines_text}
use Rattle.gic_criteria.specs.declared.asked.Criteria.{Criteria}
use Rattle.gic_inputs.specs.declared.inputs.Inputs.{Inputs}
use Rattle.gic_stand.specs.Standing.{standing_of}
use Rattle.gic_uniform.specs.Uniform.{uniform_volts}
use Rattle.gic_worst.specs.Rows.{ScreenRowView}
use Rattle.gic_worst.specs.Screening.{AreScreened}
use Rattle.gic_screen_mode.specs.ScreenText.{screen_report}

-- the text of a report of these rows
abbrev pub screen_text : Lists → Criteria → List ScreenRowView → List ℕ
screen_text case criteria rows = lines_text (screen_report case.transformers criteria.width (threshold_of criteria.event) (field_of criteria.event) rows)

-- the text is that of one right row a transformer
pub record ShowsRightRows (case : Lists) (standing : List Placed) (north east : ℕ → ℤ) (criteria : Criteria) (text : List ℕ) : Type 0 where
  pub rows : List ScreenRowView
  pub right : AreScreened case standing north east criteria.width rows
  pub text_is : text ≡ screen_text case criteria rows

-- with all switchings in force, in the field of the event that is asked for, to the north and to the east
abbrev pub IsRightScreen : Inputs Criteria → List ℕ → Type 0
IsRightScreen inputs =
    ShowsRightRows inputs.case (standing_of inputs.case inputs.switchings)
    (uniform_volts inputs.case (field_of inputs.question.event) (pos 0)) (uniform_volts inputs.case (pos 0) (field_of inputs.question.event)) inputs.question
