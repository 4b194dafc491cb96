-- The reports of a study are right.
use Rattle.std.proofs.Common.{◌≡◌, ℕ, ◌-◌, ◌<◌, List, [], length, Option, Some, None, Result, Ok, Err, ℤ, refl, sym, ap, subst, ◌∙◌, append-nil}
use Rattle.std.specs.Prelude.{IfSome, IsErrAnd, option_map}
use Rattle.gic_base.specs.Writes.{Writes}
use Rattle.gic_base.specs.declared.sink.WriteFailed.{WriteFailed}
use Rattle.gic_base.proofs.Parts.{keeps-refl}
use Rattle.gic_storm.specs.Steps.{steps_in, step_at}
use Rattle.gic_view.specs.View.{View}
use Rattle.gic_criteria.specs.Event.{threshold_of}
use Rattle.gic_stand.specs.Needs.{Solved, IsMet, IsUnmet}
use Rattle.gic_stand.specs.Serves.{Shown, shown}
use Rattle.gic_inputs.specs.Inputs.{IsStormOf}
use Rattle.gic_stand.specs.declared.fault.ReportFault.TheVariants.{Refused}
use Rattle.gic_stand.specs.declared.fault.NetworkRefusal.{NetworkRefusal}
use Rattle.gic_inputs.proofs.Answered.{answered}
use Rattle.gic_monitor.specs.RosterView.{RosterView}
use Rattle.gic_inputs.specs.declared.inputs.StormInputs.{StormInputs}
use Rattle.gic_course.specs.Steps.{IsStepOf, storm_steps, storm_fields}
use Rattle.gic_course.specs.Views.{view_at}
use Rattle.gic_course.proofs.RightSoFar.{all_right}
use Rattle.gic_course.proofs.Told.{fields-count}
use Rattle.gic_study_text.specs.StudyText.{DetailView, study_text}
use Rattle.gic_study_mode.specs.declared.views.Views.{Views}
use Rattle.gic_study_mode.specs.Asked.{asked_step}
use Rattle.gic_study_mode.specs.Roster.{roster_of}
use Rattle.gic_study_mode.specs.ServesStudy.{ServesStudy, written_so}
use Rattle.gic_study_mode.specs.declared.fault.StudyFault.{StudyFault}
use Rattle.gic_study_mode.specs.declared.fault.StudyFault.TheVariants.{Report, Memory}
use Rattle.gic_study_mode.specs.Seen.{HasSeen, with_view}
use Rattle.gic_study_mode.specs.RightStudy.{detail_at, IsRightStudy}

-- the step in detail
detail_is : (inputs : StormInputs) (asked : Option ℕ) (fields : Option (List (ℤ × ℤ))) (view : View) (views : List View) → fields ≡ option_map (storm_fields inputs) asked
    → ((number : ℕ) → asked ≡ Some number → view ≡ view_at views (number - 1))
    → option_map (with_view view) fields ≡ option_map (detail_at inputs views) asked
detail_is inputs None fields view views is own = ap (option_map (with_view view)) is
detail_is inputs (Some number) fields view views is own =
    let make : View → Option DetailView = λ v. Some (with_view v (storm_fields inputs number)) in
    ap (option_map (with_view view)) is ∙ ap make (own number refl)

asked_within : (inputs : StormInputs) (asked : Option ℕ) (number : ℕ) → IfSome asked (IsStepOf inputs) → asked ≡ Some number → IsStepOf inputs number
asked_within inputs asked number step is = subst (λ (a : Option ℕ). IfSome a (IsStepOf inputs)) is step

pub right_study : (inputs : StormInputs) (detail : Option ℕ) (asked : Option ℕ) (before now : List View → List (List ℕ)) (seen : Views) (fields : Option (List (ℤ × ℤ))) (texts : List (List ℕ))
    → HasSeen inputs asked (length (steps_in inputs.storm.rows)) before now seen
    → asked ≡ asked_step inputs detail → IfSome asked (IsStepOf inputs)
    → fields ≡ option_map (storm_fields inputs) (asked_step inputs detail) → texts ≡ now []
    → IsRightStudy inputs detail (λ roster views. before views)
    (study_text inputs.case inputs.question.width (threshold_of inputs.question.event) (length (steps_in inputs.storm.rows)) (option_map (with_view seen.asked) fields) seen.peaks texts)
right_study inputs detail asked before now seen fields texts has asked_is step fields_are texts_are =
    let case = inputs.case in
    let q = inputs.question in
    let steps = length (steps_in inputs.storm.rows) in
    let right = all_right inputs has.views has.one_each has.right in
    let own : (number : ℕ) → asked_step inputs detail ≡ Some number → seen.asked ≡ view_at has.views (number - 1) = λ number is.
    let within = asked_within inputs asked number step (asked_is ∙ is) in
    has.asked_is number (asked_is ∙ is) within.least within.most in
    let shown = detail_is inputs (asked_step inputs detail) fields seen.asked has.views fields_are own in
    let planned : texts ≡ before has.views = texts_are ∙ has.texts [] ∙ ap before (append-nil has.views) in
    record {
      views = has.views;
      right = right;
      narrow = has.narrow;
      small = has.small;
      peaks = seen.peaks;
      peaks_are = has.peaks_are;
      text_is = ap (λ (d : Option DetailView). study_text case q.width (threshold_of q.event) steps d seen.peaks texts) shown
          ∙ ap (study_text case q.width (threshold_of q.event) steps (option_map (detail_at inputs has.views) (asked_step inputs detail)) seen.peaks) planned;
    }

-- by the plans of monitors that have begun
pub by_plans : (inputs : StormInputs) (detail : Option ℕ) (outlooks : List View → List (List ℕ)) (plans : RosterView → List View → List (List ℕ))
    → ((views : List View) → outlooks views ≡ plans (roster_of inputs.case inputs.question.event) views)
    → (text : List ℕ) → IsRightStudy inputs detail (λ roster views. outlooks views) text → IsRightStudy inputs detail plans text
by_plans inputs detail outlooks plans same text right = record {
  views = right.views;
  right = right.right;
  narrow = right.narrow;
  small = right.small;
  peaks = right.peaks;
  peaks_are = right.peaks_are;
  text_is = right.text_is ∙ ap (study_text inputs.case inputs.question.width (threshold_of inputs.question.event) (length (steps_in inputs.storm.rows)) (option_map (detail_at inputs right.views) (asked_step inputs detail)) right.peaks) (same right.views);
}

-- a text that is right was written, or a prefix of it
pub writing_served : {S : Type 0} {bytes : S → Option (List ℕ)} {faults : S → ℕ} {before now : S} {text : List ℕ}
    (inputs : StormInputs) (monitors : ℕ) (IsRight : List ℕ → Type 0) (writing : Result (Unit {0}) WriteFailed) (answer : Result (Unit {0}) StudyFault)
    → IsMet Solved (storm_steps inputs) → IsRight text → Writes bytes faults before now text writing → answer ≡ written_so writing
    → ServesStudy inputs monitors IsRight (shown bytes faults before) (shown bytes faults now) answer
writing_served inputs monitors IsRight (Ok done) answer met right written is =
    subst (ServesStudy inputs monitors IsRight _ _) (sym is) (record { met = met; text = _; right = right; written = written.all })
writing_served inputs monitors IsRight (Err failed) answer met right written is =
    subst (ServesStudy inputs monitors IsRight _ _) (sym is) (record { met = met; text = _; right = right; part = written.part; cause = written.cause.failed })

-- nothing was written, since a step can't be solved
pub unserved_steps : (inputs : StormInputs) (monitors : ℕ) (IsRight : List ℕ → Type 0) (s : Shown) (refusal : NetworkRefusal) (answer : Result (Unit {0}) StudyFault)
    → IsErrAnd answer (λ e. e ≡ Report (Refused refusal)) → IsUnmet Solved inputs.case (storm_steps inputs) refusal → ServesStudy inputs monitors IsRight s s answer
unserved_steps inputs monitors IsRight s refusal answer h unmet =
    subst (ServesStudy inputs monitors IsRight s s) (sym (answered answer (Report (Refused refusal)) h)) (unmet, keeps-refl s.bytes)

-- nor out of memory
pub lacking_texts : (inputs : StormInputs) (monitors : ℕ) (IsRight : List ℕ → Type 0) (s : Shown) (answer : Result (Unit {0}) StudyFault)
    → IsErrAnd answer (λ e. e ≡ Memory) → 0 < monitors → IsMet Solved (storm_steps inputs) → ServesStudy inputs monitors IsRight s s answer
lacking_texts inputs monitors IsRight s answer h some met =
    subst (ServesStudy inputs monitors IsRight s s) (sym (answered answer Memory h)) (some, (met, keeps-refl s.bytes))

-- the step in detail has a field for each zone
pub zones_of : (inputs : StormInputs) (asked : Option ℕ) (fields : Option (List (ℤ × ℤ))) → IsStormOf inputs → fields ≡ option_map (storm_fields inputs) asked → IfSome fields (λ f. length f ≡ length inputs.case.zones)
zones_of inputs None fields storm is = subst (λ fs. IfSome fs (λ f. length f ≡ length inputs.case.zones)) (sym is) tt
zones_of inputs (Some number) fields storm is =
    subst (λ fs. IfSome fs (λ f. length f ≡ length inputs.case.zones)) (sym is) (fields-count inputs.storm.zones (step_at inputs.storm.rows number) ∙ storm)
