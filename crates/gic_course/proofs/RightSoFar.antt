-- Views that are right for the first steps of a storm.
use Rattle.std.proofs.Common.{◌≡◌, ℕ, suc, List, [], ◌∷◌, ◌++◌, length, sym, subst, arith, inl, inr, length-append}
use Rattle.std.proofs.lemmas.Bool.{cases_lt}
use Rattle.std.proofs.lemmas.List.{get_or_push, get_or_append_left}
use Rattle.std.proofs.lemmas.List.Elements.{All-push}
use Rattle.gic_case.specs.Lists.{Lists}
use Rattle.gic_storm.specs.Steps.{steps_in}
use Rattle.gic_view.specs.View.{View}
use Rattle.gic_view.specs.Kept.{blank_view}
use Rattle.gic_effective.specs.Narrow.{IsNarrowView}
use Rattle.gic_inputs.specs.declared.inputs.StormInputs.{StormInputs}
use Rattle.gic_course.specs.Views.{IsRightStep, IsSolvedStep, AreRightSoFar, AreRightViews, AreNarrowViews, AreSmallViews}
use Rattle.gic_uniform.specs.Solving.{IsSmallView}

-- a view that is solved for a step is right for it
pub right_step : (inputs : StormInputs) (width step : ℕ) (view : View) → IsSolvedStep inputs width step view → IsRightStep inputs step view
right_step inputs width step view shown = record { number = shown.number; time = shown.time; right = shown.solved.right }

-- no views are
pub none_so_far : (inputs : StormInputs) → AreRightSoFar inputs []
none_so_far inputs place within = absurd (omega (arith, within))

-- one view more, of the next step
pub one_more_right : (inputs : StormInputs) (views : List View) (view : View) → AreRightSoFar inputs views → IsRightStep inputs (suc (length views)) view → AreRightSoFar inputs (views ++ view ∷ [])
one_more_right inputs views view so_far next place within =
    elim (cases_lt place (length views)) [
      | inl before ↦ subst (IsRightStep inputs (suc place)) (sym (get_or_append_left views (view ∷ []) (blank_view 0 0 0) place before)) (so_far place before)
      | inr last ↦
          let here : length views ≡ place = omega (arith, last, within, length-append views (view ∷ [])) in
          subst (IsRightStep inputs (suc place)) (sym (get_or_push views view (blank_view 0 0 0) place here))
          (subst (λ n. IsRightStep inputs (suc n) view) here next)
    ]

-- a view for each step
pub all_right : (inputs : StormInputs) (views : List View) → length views ≡ length (steps_in inputs.storm.rows) → AreRightSoFar inputs views → AreRightViews inputs views
all_right inputs views count so_far = record { one_each = count; right = so_far }

-- one narrow view more
pub one_more_narrow : (case : Lists) (width : ℕ) (views : List View) (view : View) → AreNarrowViews case width views → IsNarrowView case width view → AreNarrowViews case width (views ++ view ∷ [])
one_more_narrow case width views view narrow next = All-push (IsNarrowView case width) views view narrow next

-- one small view more
pub one_more_small : (case : Lists) (views : List View) (view : View) → AreSmallViews case views → IsSmallView case view → AreSmallViews case (views ++ view ∷ [])
one_more_small case views view small next = All-push (IsSmallView case) views view small next
