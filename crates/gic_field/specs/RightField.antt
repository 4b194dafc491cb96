-- What a report of one field has to say.
use Rattle.std.specs.Prelude.{◌≡◌, ℕ, List, ℤ}
use Rattle.gic_case.specs.Lists.{Lists}
use Rattle.gic_model.specs.Sums.{Placed}
use Rattle.gic_view.specs.View.{View}
use Rattle.gic_effective.specs.Narrow.{IsNarrowView}
use Rattle.gic_effective.specs.RightView.{IsRightView}
use Rattle.gic_criteria.specs.Event.{threshold_of}
use Rattle.gic_text.specs.Lines.{lines_text}
use Rattle.gic_field.specs.FieldText.{field_report}
use Rattle.gic_criteria.specs.declared.asked.Question.{Question}
use Rattle.gic_inputs.specs.declared.inputs.Inputs.{Inputs}
use Rattle.gic_stand.specs.Standing.{standing_of}
use Rattle.gic_uniform.specs.Uniform.{uniform_volts}

-- the voltages in nanovolts of the field that is asked for, in the elements of the case, by their places
abbrev pub asked_volts : Inputs Question → ℕ → ℤ
asked_volts inputs = uniform_volts inputs.case inputs.question.field.north inputs.question.field.east

-- the text of a report of this view
abbrev pub field_text : Lists → Question → View → List ℕ
field_text case q view = lines_text (field_report case q.field.north q.field.east q.criteria.width (threshold_of q.criteria.event) view)

-- the text is that of a view that is right and in which no interval is wider than asked
pub record ShowsRightView (case : Lists) (standing : List Placed) (volts : ℕ → ℤ) (q : Question) (text : List ℕ) : Type 0 where
  pub view : View
  pub right : IsRightView case standing volts view
  pub narrow : IsNarrowView case q.criteria.width view
  pub text_is : text ≡ field_text case q view

-- with all switchings in force, in the field, the width and the event that are asked for
abbrev pub IsRightField : Inputs Question → List ℕ → Type 0
IsRightField inputs = ShowsRightView inputs.case (standing_of inputs.case inputs.switchings) (asked_volts inputs) inputs.question
