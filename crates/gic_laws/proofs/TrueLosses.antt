-- The lines of losses over the views of a right study bound the exact currents of its steps.
use Rattle.std.proofs.Common.{◌≡◌, ℕ, suc, ◌-◌, ◌<◌, List, ◌∷◌, ◌++◌, map, length, get_or, codes, All, Option, Some, ℤ, pos, ◌-ℤ◌, refl, ap, sym, subst, ◌∙◌, arith}
use Rattle.std.specs.List.{range_with_len}
use Rattle.std.proofs.Math.Seq.{get_or-append_seam}
use Rattle.std.proofs.lemmas.List.{get_or-map, get_or_append_left, ext_get_or, length-map, length-append}
use Rattle.std.proofs.lemmas.List.Elements.{All-from_get_or, All-get_or}
use Rattle.std.proofs.lemmas.List.FromFn.{get_or-map-range_with_len, length-map-range_with_len}
use Rattle.gic_text.specs.Lines.{line_text}
use Rattle.gic_case.specs.Sound.{IsSound}
use Rattle.gic_model.specs.Solution.{Solution}
use Rattle.gic_effective.specs.Narrow.{IsNarrowView}
use Rattle.gic_view.specs.View.{View}
use Rattle.gic_view.specs.Kept.{blank_view}
use Rattle.gic_monitor.specs.RosterView.{RosterView}
use Rattle.gic_monitor.specs.declared.loss.table_loss.NamedFactor.{NamedFactor}
use Rattle.gic_monitor.specs.LossBounds.{Currents, ShowsUnits, AreNarrowUnits, total_width, IsTotalAtMost, IsTotalUnder, IsTotalAtLeast, TellsBounds, LossesAreBounded}
use Rattle.gic_monitor.specs.LossText.{loss_line, volt_factor, volt_factors, volt_text, table_factor, table_factors, table_text}
use Rattle.gic_inputs.specs.declared.inputs.StormInputs.{StormInputs}
use Rattle.gic_course.specs.Steps.{IsStepOf}
use Rattle.gic_course.specs.Views.{view_at}
use Rattle.gic_study_mode.specs.PeakEnclosure.{AreStepSolutions}
use Rattle.gic_study_mode.specs.RightStudy.{IsRightStudy}
use Rattle.gic_study_mode.specs.Roster.{rated_of, roster_of}
use Rattle.gic_laws.specs.Losses.{AreCurrentsOfSteps, AreTrueLosses, IsTrueLoss}
use Rattle.gic_laws.proofs.ShownUnits.{shown_units}

module _ (inputs : StormInputs) (detail : Option ℕ) (plans : RosterView → List View → List (List ℕ)) (text : List ℕ) (sound : IsSound inputs.case)
    (one : IsStepOf inputs 1) (study : IsRightStudy inputs detail plans text) where
  abbrev views : List View
  views = study.views

  abbrev roster : RosterView
  roster = roster_of inputs.case inputs.question.event

  own_step : (place : ℕ) → place < length views → IsStepOf inputs (suc place)
  own_step place within = record { least = omega arith; most = omega (arith, within, study.right.one_each) }

  -- of each step, its view and its exact currents
  module _ (solutions : ℕ → Solution) (solve : AreStepSolutions inputs solutions) (currents : ℕ → Currents) (are : AreCurrentsOfSteps inputs solutions currents) where
    abbrev Step : Type 0
    Step = View × Currents

    abbrev no_step : Step
    no_step = (blank_view 0 0 0, currents 0)

    abbrev step_of : ℕ → Step
    step_of number = (view_at views (number - 1), currents number)

    abbrev steps : List Step
    steps = map step_of (range_with_len 1 (length views))

    many : length steps ≡ length views
    many = length-map-range_with_len step_of 1 (length views)

    step_at : (place : ℕ) (d : Step) → place < length views → get_or steps place d ≡ (view_at views place, currents (suc place))
    step_at place d inside =
        let back : suc place - 1 ≡ place = omega arith in
        let made : ℕ → Step = λ k. (view_at views k, currents (suc place)) in
        get_or-map-range_with_len step_of 1 (length views) place (suc place) d inside (omega arith) ∙ ap made back

    views_are : map (λ (step : Step). step.0) steps ≡ views
    views_are =
        let view_of : Step → View = λ step. step.0 in
        let long : length (map view_of steps) ≡ length steps = length-map steps view_of in
        ext_get_or (blank_view 0 0 0) (map view_of steps) views (long ∙ many) (λ place inside.
        let there : place < length views = omega (arith, inside, long, many) in
        get_or-map view_of steps place no_step (blank_view 0 0 0) (omega (arith, there, many)) ∙ ap view_of (step_at place no_step there))

    -- units as many as the case has transformers
    module _ (word : List ℕ) (factors : List ℕ) (text_of : List View → List ℕ) (count : length factors ≡ length inputs.case.transformers) (law : LossesAreBounded word factors text_of) where
      shows : All (λ (step : Step). ShowsUnits (length factors) step.0 step.1) steps
      shows =
          All-from_get_or (λ (step : Step). ShowsUnits (length factors) step.0 step.1) steps no_step (λ place inside.
          let there : place < length views = omega (arith, inside, many) in
          let own = own_step place there in
          subst (λ (step : Step). ShowsUnits (length factors) step.0 step.1) (sym (step_at place no_step there))
          (subst (λ n. ShowsUnits n (view_at views place) (currents (suc place))) (sym count)
          (shown_units inputs detail plans text sound study place there (solutions (suc place)) (solve (suc place) own) (currents (suc place)) (are (suc place) own))))

      told : TellsBounds word factors steps (text_of (map (λ (step : Step). step.0) steps))
      told = law steps (omega (arith, many, study.right.one_each, one.most)) shows

      most_at : (number : ℕ) → IsStepOf inputs number → IsTotalAtMost factors told.total.high (currents number)
      most_at number own =
          let place : ℕ = number - 1 in
          let there : place < length views = omega (arith, own.least, own.most, study.right.one_each) in
          let back : suc place ≡ number = omega (arith, own.least) in
          let at : IsTotalAtMost factors told.total.high (get_or steps place no_step).1 = All-get_or (λ (step : Step). IsTotalAtMost factors told.total.high step.1) steps place no_step (omega (arith, there, many)) told.bounds.most in
          subst (λ n. IsTotalAtMost factors told.total.high (currents n)) back
          (subst (λ (step : Step). IsTotalAtMost factors told.total.high step.1) (step_at place no_step there) at)

      least_there : told.bounds.least.0 < length views
      least_there = omega (arith, told.bounds.least.2, many)

      least_at : IsTotalAtLeast factors told.total.low (currents (suc told.bounds.least.0))
      least_at =
          let shown : told.bounds.least.1 ≡ (view_at views told.bounds.least.0, currents (suc told.bounds.least.0)) =
          sym told.bounds.least.3 ∙ step_at told.bounds.least.0 told.bounds.least.1 least_there in
          subst (λ (step : Step). IsTotalAtLeast factors told.total.low step.1) shown told.bounds.least.4

      -- the step that is named
      abbrev place : ℕ
      place = length told.bounds.named.before

      few : place < length views
      few =
          let parts = length-append told.bounds.named.before (told.bounds.named.step ∷ told.bounds.named.behind) in
          let all : length steps ≡ length (told.bounds.named.before ++ told.bounds.named.step ∷ told.bounds.named.behind) = ap (λ (xs : List Step). length xs) told.bounds.named.are in
          let some : length (told.bounds.named.step ∷ told.bounds.named.behind) ≡ suc (length told.bounds.named.behind) = refl in
          omega (arith, many, parts, all, some)

      step_is : told.bounds.named.step ≡ (view_at views place, currents (suc place))
      step_is =
          sym (get_or-append_seam told.bounds.named.before told.bounds.named.step told.bounds.named.behind no_step)
          ∙ ap (λ (xs : List Step). get_or xs place no_step) (sym told.bounds.named.are) ∙ step_at place no_step few

      number_is : told.total.number ≡ suc place
      number_is = told.bounds.named.number_is ∙ ap (λ (step : Step). step.0.number) step_is ∙ (study.right.right place few).number

      narrow_view : AreNarrowUnits inputs.question.width (length factors) told.bounds.named.step.0
      narrow_view =
          let narrow : IsNarrowView inputs.case inputs.question.width (view_at views place) = All-get_or (IsNarrowView inputs.case inputs.question.width) views place (blank_view 0 0 0) few study.narrow in
          subst (λ (step : Step). AreNarrowUnits inputs.question.width (length factors) step.0) (sym step_is) (λ unit inside. narrow.effective unit (omega (arith, inside, count)))

      near_at : IsTotalAtLeast factors (told.total.high -ℤ pos (total_width inputs.question.width factors)) (currents told.total.number)
      near_at =
          let wide : ℤ = told.total.high -ℤ pos (total_width inputs.question.width factors) in
          subst (λ n. IsTotalAtLeast factors wide (currents n)) (sym number_is)
          (subst (λ (step : Step). IsTotalAtLeast factors wide step.1) step_is (told.bounds.named.near inputs.question.width narrow_view))

      under_at : (number : ℕ) → IsStepOf inputs number → number < told.total.number → IsTotalUnder factors told.total.high (currents number)
      under_at number own earlier =
          let k : ℕ = number - 1 in
          let back : suc k ≡ number = omega (arith, own.least) in
          let inside : k < place = omega (arith, number_is, earlier, back) in
          let there : k < length views = omega (arith, inside, few) in
          let under : IsTotalUnder factors told.total.high (get_or told.bounds.named.before k no_step).1 = All-get_or (λ (step : Step). IsTotalUnder factors told.total.high step.1) told.bounds.named.before k no_step inside told.bounds.named.under in
          let same : get_or told.bounds.named.before k no_step ≡ (view_at views k, currents (suc k)) =
          sym (get_or_append_left told.bounds.named.before (told.bounds.named.step ∷ told.bounds.named.behind) no_step k inside)
          ∙ ap (λ (xs : List Step). get_or xs k no_step) (sym told.bounds.named.are) ∙ step_at k no_step there in
          subst (λ n. IsTotalUnder factors told.total.high (currents n)) back
          (subst (λ (step : Step). IsTotalUnder factors told.total.high step.1) same under)

      true_loss : IsTrueLoss inputs word factors currents (text_of views)
      true_loss = record {
        total = told.total;
        text_is = subst (λ (vs : List View). text_of vs ≡ line_text (loss_line word (Some told.total))) views_are told.line;
        most = most_at;
        named = subst (IsStepOf inputs) (sym number_is) (own_step place few);
        before = under_at;
        near = near_at;
        least = (suc told.bounds.least.0, own_step told.bounds.least.0 least_there, least_at);
        narrow = told.bounds.named.narrow inputs.question.width narrow_view;
      }

pub true_losses : ((scale : ℕ) (roster : RosterView) → LossesAreBounded (codes "loss") (volt_factors scale roster) (volt_text scale roster))
    → ((table : List NamedFactor) (roster : RosterView) → LossesAreBounded (codes "table") (table_factors table roster) (table_text table roster))
    → (inputs : StormInputs) (detail : Option ℕ) (plans : RosterView → List View → List (List ℕ)) (text : List ℕ) → IsSound inputs.case
    → IsStepOf inputs 1 → (study : IsRightStudy inputs detail plans text) → AreTrueLosses inputs study.views
true_losses by_volts by_table inputs detail plans text sound one study =
    let roster = roster_of inputs.case inputs.question.event in
    let rated : length roster.units ≡ length inputs.case.transformers = length-map inputs.case.transformers rated_of in
    record {
      by_volts = λ scale solutions solve currents are.
          true_loss inputs detail plans text sound one study solutions solve currents are (codes "loss") (volt_factors scale roster) (volt_text scale roster)
          (length-map roster.units (volt_factor scale) ∙ rated) (by_volts scale roster);
      by_table = λ table solutions solve currents are.
          true_loss inputs detail plans text sound one study solutions solve currents are (codes "table") (table_factors table roster) (table_text table roster)
          (length-map roster.units (table_factor table) ∙ rated) (by_table table roster);
    }
