-- That the text of the mode determines what it shows.
use Rattle.std.specs.Prelude.{◌≡◌, ℕ, ◌<◌, ◌^◌, ℤ, List, length, All, Option, IfSome, FitsSigned, ⊤}
use mir.Syntax.{w32}
use Rattle.gic_case.specs.Lists.{Lists}
use Rattle.gic_fixed.specs.Ends.{Ends}
use Rattle.gic_outage.specs.Plan.{plan_of}
use Rattle.gic_text.specs.Lines.{lines_text}
use Rattle.gic_text.specs.Words.{IsWord}
use Rattle.gic_report.specs.Fits.{AreInRange, HasNames}
use Rattle.gic_report.specs.Counts.{AreCounts}
use Rattle.gic_outage.specs.declared.outcome.OutageOutcome.{OutageOutcome}
use Rattle.gic_outage.specs.declared.outcome.OutageOutcome.TheVariants.{Idle, Unearthed, Unresolved, Solved}
use Rattle.gic_outage.specs.OutageText.{outage_report}

-- a node that is named has a name, and each count is a number
abbrev pub IsShownOutcome : OutageOutcome → Type 0
IsShownOutcome Idle = ⊤
IsShownOutcome (Unearthed node) = IsWord node
IsShownOutcome (Unresolved node) = IsWord node
IsShownOutcome (Solved counts) = AreCounts counts

-- a width, a threshold, a field, outcomes and intervals that can be shown of a case: numbers of their types, one outcome an item and one interval at most a transformer
pub record AreShownOf (case : Lists) (width threshold : ℕ) (field : ℤ) (outcomes : List OutageOutcome) (greatest : List (Option Ends)) : Type 0 where
  pub outcome_count : length outcomes ≡ length (plan_of case)
  pub greatest_count : length greatest ≡ length case.transformers
  pub width_fits : width < 2 ^ 32
  pub threshold_fits : threshold < 2 ^ 32
  pub field_fits : FitsSigned w32 field
  pub outcomes_fit : All IsShownOutcome outcomes
  pub greatest_fit : All (λ cell. IfSome cell AreInRange) greatest

-- all that is printed is equal
pub record ShowsSame (width threshold : ℕ) (field : ℤ) (outcomes : List OutageOutcome) (greatest : List (Option Ends))
    (width' threshold' : ℕ) (field' : ℤ) (outcomes' : List OutageOutcome) (greatest' : List (Option Ends)) : Type 0 where
  pub same_width : width ≡ width'
  pub same_threshold : threshold ≡ threshold'
  pub same_field : field ≡ field'
  pub same_outcomes : outcomes ≡ outcomes'
  pub same_greatest : greatest ≡ greatest'

-- equal texts on one case show the same
abbrev pub TextDeterminesOutage : Type 0
TextDeterminesOutage = (case : Lists) → HasNames case →
    (width threshold : ℕ) (field : ℤ) (outcomes : List OutageOutcome) (greatest : List (Option Ends)) (width' threshold' : ℕ) (field' : ℤ) (outcomes' : List OutageOutcome) (greatest' : List (Option Ends)) →
    AreShownOf case width threshold field outcomes greatest → AreShownOf case width' threshold' field' outcomes' greatest' →
    lines_text (outage_report case width threshold field outcomes greatest) ≡ lines_text (outage_report case width' threshold' field' outcomes' greatest') →
    ShowsSame width threshold field outcomes greatest width' threshold' field' outcomes' greatest'
