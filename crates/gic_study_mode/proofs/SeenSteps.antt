-- How a study goes on from step to step.
use Rattle.std.proofs.Common.{◌≡◌, ℕ, ◌+◌, ◌-◌, ◌≤◌, ◌==◌, true, false, List, [], ◌∷◌, ◌++◌, length, Option, Some, refl, sym, ap, subst, ◌∙◌, arith, inl, inr, append_assoc, length-append}
use Rattle.std.specs.Prelude.{if◌then◌else◌}
use Rattle.std.proofs.lemmas.Bool.{cases_lt}
use Rattle.std.proofs.lemmas.Bool.Decides.{nat_tests}
use Rattle.std.proofs.lemmas.List.{get_or_push, get_or_append_left}
use Rattle.std.proofs.lemmas.List.Elements.{All-nil}
use Rattle.gic_view.specs.View.{View}
use Rattle.gic_view.specs.Kept.{blank_view}
use Rattle.gic_effective.specs.Narrow.{IsNarrowView}
use Rattle.gic_view.specs.Peaks.{IsPeaksOf}
use Rattle.gic_inputs.specs.declared.inputs.StormInputs.{StormInputs}
use Rattle.gic_course.specs.Views.{IsRightStep, view_at}
use Rattle.gic_uniform.specs.Solving.{IsSmallView}
use Rattle.gic_course.proofs.RightSoFar.{right_step, none_so_far, one_more_right, one_more_narrow, one_more_small}
use Rattle.gic_study_mode.specs.declared.views.Views.{Views}
use Rattle.gic_study_mode.specs.Seen.{IsSpaceForViews, is_asked, HasShown, HasSeen}

-- nothing was seen
pub none_seen : (inputs : StormInputs) (asked : Option ℕ) (texts : List View → List (List ℕ)) (views : Views) → IsPeaksOf [] views.peaks → IsSpaceForViews inputs.case views → HasSeen inputs asked 0 texts texts views
none_seen inputs asked texts views none space = record {
  views = [];
  one_each = refl;
  right = none_so_far inputs;
  narrow = All-nil (IsNarrowView inputs.case inputs.question.width);
  small = All-nil (IsSmallView inputs.case);
  peaks_are = none;
  asked_is = λ number is least most. absurd (omega (arith, least, most));
  texts = λ rest. refl;
  space = space;
}

-- the asked view, after one view more
asked_stays : (number count : ℕ) (views : List View) (view old new : View) → length views ≡ count → 1 ≤ number → number ≤ count + 1
    → new ≡ (if is_asked (Some number) (count + 1) then view else old) → (number ≤ count → old ≡ view_at views (number - 1)) → new ≡ view_at (views ++ view ∷ []) (number - 1)
asked_stays number count views view old new many least most stays before =
    elim (cases_lt (number - 1) count) [
      | inl earlier ↦
          let off : (number == (count + 1)) ≡ false = grind (arith, nat_tests, earlier, least) in
          let kept : new ≡ old = subst (λ b. new ≡ (if b then view else old)) off stays in
          kept ∙ before (omega (arith, earlier, least)) ∙ sym (get_or_append_left views (view ∷ []) (blank_view 0 0 0) (number - 1) (omega (arith, earlier, many)))
      | inr now ↦
          let on : (number == (count + 1)) ≡ true = grind (arith, nat_tests, now, least, most) in
          let shown : new ≡ view = subst (λ b. new ≡ (if b then view else old)) on stays in
          shown ∙ sym (get_or_push views view (blank_view 0 0 0) (number - 1) (omega (arith, now, least, most, many)))
    ]

-- one view more was seen
pub next_seen : (inputs : StormInputs) (asked : Option ℕ) (count : ℕ) (before mid now : List View → List (List ℕ)) (old new : Views)
    → HasSeen inputs asked count before mid old → HasShown inputs asked (count + 1) mid now old new → HasSeen inputs asked (count + 1) before now new
next_seen inputs asked count before mid now old new seen shown =
    let views = seen.views in
    let view = shown.view in
    let own = right_step inputs inputs.question.width (count + 1) view shown.own in
    record {
      views = views ++ view ∷ [];
      one_each = omega (arith, length-append views (view ∷ []), seen.one_each);
      right = one_more_right inputs views view seen.right (subst (λ n. IsRightStep inputs n view) (omega (arith, seen.one_each)) own);
      narrow = one_more_narrow inputs.case inputs.question.width views view seen.narrow shown.own.solved.narrow;
      small = one_more_small inputs.case views view seen.small shown.own.solved.small;
      peaks_are = shown.raised views seen.peaks_are;
      asked_is = λ number is least most.
          asked_stays number count views view old.asked new.asked seen.one_each least most
          (subst (λ (a : Option ℕ). new.asked ≡ (if is_asked a (count + 1) then view else old.asked)) is shown.stays)
          (λ within. seen.asked_is number is least within);
      texts = λ rest. shown.texts rest ∙ seen.texts (view ∷ rest) ∙ ap before (sym (append_assoc views (view ∷ []) rest));
      space = shown.space;
    }
