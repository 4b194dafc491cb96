-- What a study has seen of a storm.
use Rattle.std.specs.Prelude.{◌≡◌, ℕ, ◌-◌, ◌≤◌, ◌==◌, ℤ, List, [], ◌∷◌, ◌++◌, length, Bool, false, Option, None, Some, if◌then◌else◌}
use Rattle.gic_case.specs.Lists.{Lists}
use Rattle.gic_view.specs.View.{View}
use Rattle.gic_effective.specs.ViewLengths.{HasViewLengths}
use Rattle.gic_view.specs.Peaks.{IsPeaksOf}
use Rattle.gic_inputs.specs.declared.inputs.StormInputs.{StormInputs}
use Rattle.gic_course.specs.Views.{IsSolvedStep, AreRightSoFar, AreNarrowViews, AreSmallViews, view_at}
use Rattle.gic_study_text.specs.StudyText.{DetailView}
use Rattle.gic_study_mode.specs.declared.views.Views.{Views}

-- the view of a step with its fields
abbrev pub with_view : View → (fields : List (ℤ × ℤ)) → DetailView
with_view view fields = record { fields = fields; view = view }

-- there is space for each node, element and transformer of the case
pub record IsSpaceForViews (case : Lists) (views : Views) : Type 0 where
  pub peaks : HasViewLengths case views.peaks
  pub asked : HasViewLengths case views.asked
  pub other : HasViewLengths case views.other

-- the view is solved for the step, and none of its intervals is wider than asked
abbrev pub IsViewOf : StormInputs → (number : ℕ) → View → Type 0
IsViewOf inputs number view = IsSolvedStep inputs inputs.question.width number view

-- one view more is behind the peaks
abbrev pub AreRaisedBy : View → (old new : View) → Type 0
AreRaisedBy view old new = (views : List View) → IsPeaksOf views old → IsPeaksOf (views ++ view ∷ []) new

-- the texts that were to be printed of one view more and any others are those that are now to be printed of the others
abbrev pub AreShown : View → (before now : List View → List (List ℕ)) → Type 0
AreShown view before now = (views : List View) → now views ≡ before (view ∷ views)

-- one view was shown: it is solved for the step, and behind the peaks and the texts; there is space in the peaks as before
pub record IsSeen (inputs : StormInputs) (number : ℕ) (view : View) (before now : List View → List (List ℕ)) (old new : View) : Type 0 where
  pub own : IsViewOf inputs number view
  pub raised : AreRaisedBy view old new
  pub texts : AreShown view before now
  pub lengths : HasViewLengths inputs.case new

-- whether the step is the asked one
abbrev pub is_asked : (asked : Option ℕ) → (number : ℕ) → Bool
is_asked None number = false
is_asked (Some asked) number = asked == number

-- one view was shown: it is behind the peaks and the texts, and it stays where the step is the asked one
pub record HasShown (inputs : StormInputs) (asked : Option ℕ) (number : ℕ) (before now : List View → List (List ℕ)) (old new : Views) : Type 0 where
  pub view : View
  pub own : IsViewOf inputs number view
  pub raised : AreRaisedBy view old.peaks new.peaks
  pub stays : new.asked ≡ (if is_asked asked number then view else old.asked)
  pub texts : AreShown view before now
  pub space : IsSpaceForViews inputs.case new

-- one list of views is behind the peaks, the asked view and the texts: right for the first steps, this many, narrow and small
pub record HasSeen (inputs : StormInputs) (asked : Option ℕ) (count : ℕ) (before now : List View → List (List ℕ)) (seen : Views) : Type 0 where
  pub views : List View
  pub one_each : length views ≡ count
  pub right : AreRightSoFar inputs views
  pub narrow : AreNarrowViews inputs.case inputs.question.width views
  pub small : AreSmallViews inputs.case views
  pub peaks_are : IsPeaksOf views seen.peaks
  pub asked_is : (number : ℕ) → asked ≡ Some number → 1 ≤ number → number ≤ count → seen.asked ≡ view_at views (number - 1)
  pub texts : (rest : List View) → now rest ≡ before (views ++ rest)
  pub space : IsSpaceForViews inputs.case seen
