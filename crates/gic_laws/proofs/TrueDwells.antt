-- The counts of dwells over the views of a right study bound the exact currents of its steps.
use Rattle.std.proofs.Common.{◌≡◌, ℕ, suc, ◌+◌, ◌-◌, ◌<◌, ◌≤◌, ◌^◌, List, [], map, length, get_or, count_by, All, Option, ap, sym, subst, ◌∙◌, arith, refl, zero-add}
use Rattle.std.specs.List.{enumerate_from, range_with_len}
use Rattle.std.proofs.lemmas.List.{get_or-map, ext_get_or, length-map}
use Rattle.std.proofs.lemmas.List.Elements.{All-from_get_or, All-get_or, All-weaker, recursion_from_All}
use Rattle.std.proofs.lemmas.List.FromFn.{get_or-map-range_with_len, length-map-range_with_len, get_or-enumerate_from, length-enumerate_from}
use Rattle.gic_fixed.proofs.Enclosures.{Encloses-abs}
use Rattle.gic_case.specs.Lists.{Lists}
use Rattle.gic_case.specs.Sound.{IsSound}
use Rattle.gic_model.specs.Solution.{Solution}
use Rattle.gic_storm.specs.Steps.{steps_in}
use Rattle.gic_view.specs.View.{View, effective_at}
use Rattle.gic_view.specs.Kept.{blank_view}
use Rattle.gic_winding.specs.Weights.{transformer_at, no_transformer}
use Rattle.gic_effective.specs.Weighted.{effective_numerator, effective_denominator}
use Rattle.gic_uniform.proofs.Denominators.{some_denominator}
use Rattle.gic_effective.specs.Narrow.{IsNarrowView}
use Rattle.gic_monitor.specs.declared.roster.Rated.{Rated}
use Rattle.gic_monitor.specs.RosterView.{RosterView}
use Rattle.gic_monitor.specs.Bounds.{Current, ShowsUnit, is_at_least, exact_count, CertainAreFewest, PossibleAreMost}
use Rattle.gic_monitor.specs.DwellText.{certain_count, possible_count, stopped, dwell_line, dwell_text, unit_line}
use Rattle.gic_monitor.proofs.CountsBound.{count_by-map}
use Rattle.gic_inputs.specs.declared.inputs.StormInputs.{StormInputs}
use Rattle.gic_course.specs.Steps.{IsStepOf}
use Rattle.gic_course.specs.Views.{view_at}
use Rattle.gic_study_mode.specs.PeakEnclosure.{AreStepSolutions}
use Rattle.gic_study_mode.specs.RightStudy.{IsRightStudy}
use Rattle.gic_study_mode.specs.Roster.{rated_of, roster_of}
use Rattle.gic_laws.specs.Printed.{HasTrueLines, width_asked}
use Rattle.gic_laws.specs.Dwells.{IsTrueDwell, effective_current, steps_at_least, storm_threshold}
use Rattle.gic_laws.proofs.NearCounts.{IsNarrowlyShown, near_are_certain, possible_are_near}

-- the unit at a place of the roster
unit_at : (case : Lists) (t : ℕ) (d : ℕ × Rated) → t < length case.transformers → get_or (enumerate_from 0 (map rated_of case.transformers)) t d ≡ (t, rated_of (transformer_at case t))
unit_at case t d within =
    let units = map rated_of case.transformers in
    let long : length units ≡ length case.transformers = length-map case.transformers rated_of in
    let pair : ℕ → Rated → ℕ × Rated = λ k r. (k, r) in
    get_or-enumerate_from 0 units t d (omega (arith, long, within))
    ∙ ap (λ k. pair k (get_or units t d.1)) (zero-add t)
    ∙ ap (pair t) (get_or-map rated_of case.transformers t no_transformer d.1 within)

module _ (fewest : CertainAreFewest) (most : PossibleAreMost) (inputs : StormInputs) (detail : Option ℕ) (plans : RosterView → List View → List (List ℕ)) (text : List ℕ) (sound : IsSound inputs.case)
    (study : IsRightStudy inputs detail plans text) (solutions : ℕ → Solution) (solve : AreStepSolutions inputs solutions) where
  abbrev case : Lists
  case = inputs.case

  abbrev threshold : ℕ
  threshold = storm_threshold inputs

  abbrev width : ℕ
  width = width_asked inputs

  abbrev views : List View
  views = study.views

  abbrev no_step : View × Current
  no_step = (blank_view 0 0 0, effective_current case (solutions 0) 0)

  -- a transformer, with a step's view and its exact current
  module _ (t : ℕ) (within : t < length case.transformers) where
    abbrev step_of : ℕ → View × Current
    step_of number = (view_at views (number - 1), effective_current case (solutions number) t)

    abbrev steps : List (View × Current)
    steps = map step_of (range_with_len 1 (length views))

    many : length steps ≡ length views
    many = length-map-range_with_len step_of 1 (length views)

    step_at : (place : ℕ) → place < length views → get_or steps place no_step ≡ (view_at views place, effective_current case (solutions (suc place)) t)
    step_at place inside =
        let back : suc place - 1 ≡ place = omega arith in
        let made : ℕ → View × Current = λ k. (view_at views k, effective_current case (solutions (suc place)) t) in
        get_or-map-range_with_len step_of 1 (length views) place (suc place) no_step inside (omega arith) ∙ ap made back

    views_are : map (λ (step : View × Current). step.0) steps ≡ views
    views_are =
        let view_of : View × Current → View = λ step. step.0 in
        let long : length (map view_of steps) ≡ length steps = length-map steps view_of in
        ext_get_or (blank_view 0 0 0) (map view_of steps) views (long ∙ many) (λ place inside.
        let there : place < length views = omega (arith, inside, long, many) in
        get_or-map view_of steps place no_step (blank_view 0 0 0) (omega (arith, there, many)) ∙ ap view_of (step_at place there))

    each : All (IsNarrowlyShown width t) steps
    each =
        All-from_get_or (IsNarrowlyShown width t) steps no_step (λ place inside.
        let there : place < length views = omega (arith, inside, many) in
        let own : IsStepOf inputs (suc place) = record { least = omega arith; most = omega (arith, there, study.right.one_each) } in
        let s = solutions (suc place) in
        let solves = solve (suc place) own in
        let view = view_at views place in
        let narrow = All-get_or (IsNarrowView case width) views place (blank_view 0 0 0) there study.narrow in
        subst (IsNarrowlyShown width t) (sym (step_at place there)) (record {
          shown = record {
            above_zero = some_denominator case t s sound within solves.denominator_above_0;
            encloses = Encloses-abs (effective_at view t).low (effective_at view t).high (effective_numerator case s t) (effective_denominator case t s)
                (((study.right.right place there).right.effective t within).holds s solves);
          };
          narrow = narrow.effective t within;
        }))

    shows : All (λ (step : View × Current). ShowsUnit t step.0 step.1) steps
    shows = All-weaker (IsNarrowlyShown width t) (λ (step : View × Current). ShowsUnit t step.0 step.1) (λ step s. s.shown) steps each

    count_is : (milliamperes : ℕ) → exact_count milliamperes steps ≡ steps_at_least inputs solutions t milliamperes
    count_is milliamperes =
        count_by-map (λ (step : View × Current). is_at_least milliamperes step.1) step_of (range_with_len 1 (length views))
        ∙ ap (λ n. count_by (λ number. is_at_least milliamperes (effective_current case (solutions number) t)) (range_with_len 1 n)) study.right.one_each

    -- what is said of the counts over the list of the steps is said of those over the views
    over_views : (P : List View → ℕ → Type 0) (milliamperes : ℕ) → P (map (λ (step : View × Current). step.0) steps) (exact_count milliamperes steps) → P views (steps_at_least inputs solutions t milliamperes)
    over_views P milliamperes h =
        subst (P views) (count_is milliamperes) (subst (λ vs. P vs (exact_count milliamperes steps)) views_are h)

    true_dwell : IsTrueDwell inputs solutions t (dwell_line (transformer_at case t).name (certain_count threshold t views) (possible_count threshold t views))
    true_dwell = record {
      certain = stopped (certain_count threshold t views);
      possible = stopped (possible_count threshold t views);
      line_is = refl;
      fewest = over_views (λ vs n. stopped (certain_count threshold t vs) ≤ n) threshold (fewest threshold t steps shows);
      most = λ (few : length (steps_in inputs.storm.rows) < 2 ^ 64). over_views (λ vs n. n ≤ stopped (possible_count threshold t vs)) threshold (most threshold t steps (omega (arith, few, many, study.right.one_each)) shows);
      certain_near = λ (few : length (steps_in inputs.storm.rows) < 2 ^ 64). over_views (λ vs n. n ≤ stopped (certain_count threshold t vs)) (threshold + width)
          (near_are_certain threshold width t steps (omega (arith, few, many, study.right.one_each)) (recursion_from_All (IsNarrowlyShown width t) steps each));
      possible_near = over_views (λ vs n. stopped (possible_count threshold t vs) ≤ n) (threshold - width)
          (possible_are_near threshold width t steps (recursion_from_All (IsNarrowlyShown width t) steps each));
    }

  abbrev units : List (ℕ × Rated)
  units = enumerate_from 0 (map rated_of case.transformers)

  count : length units ≡ length case.transformers
  count = length-enumerate_from 0 (map rated_of case.transformers) ∙ length-map case.transformers rated_of

  pub true_dwells : HasTrueLines (length case.transformers) (IsTrueDwell inputs solutions) (dwell_text (roster_of case inputs.question.event) views)
  true_dwells = record {
    lines = map (unit_line threshold views) units;
    text_is = refl;
    one_each = length-map units (unit_line threshold views) ∙ count;
    each = λ t within.
        let d : ℕ × Rated = (0, rated_of no_transformer) in
        let line = get_or-map (unit_line threshold views) units t d [] (omega (arith, within, count)) ∙ ap (unit_line threshold views) (unit_at case t d within) in
        subst (IsTrueDwell inputs solutions t) (sym line) (true_dwell t within);
  }
