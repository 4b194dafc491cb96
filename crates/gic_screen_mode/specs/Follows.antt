-- What follows of a right report of the mode.
use Rattle.std.specs.Prelude.{◌≡◌, ℕ, ◌+◌, ◌-◌, ◌<◌, List, length, ℤ}
use Rattle.gic_case.specs.Lists.{Lists}
use Rattle.gic_model.specs.Sums.{Placed}
use Rattle.gic_criteria.specs.declared.asked.Criteria.{Criteria}
use Rattle.gic_criteria.specs.Event.{threshold_of}
use Rattle.gic_criteria.specs.declared.criterion.Verdict.TheVariants.{Undecided}
use Rattle.gic_worst.specs.RightRows.{IsTrueVerdict, IsWorstUnder, IsWorstAtLeast, worst_verdict_at}
use Rattle.gic_worst.specs.Rows.{screen_row_at}
use Rattle.gic_screen_mode.specs.RightScreen.{ShowsRightRows}

-- the verdict on the worst interval of each row of a right report is true
abbrev pub ScreenVerdictsAreTrue : Type 0
ScreenVerdictsAreTrue = (case : Lists) (standing : List Placed) (north east : ℕ → ℤ) (criteria : Criteria) (text : List ℕ) (report : ShowsRightRows case standing north east criteria text) →
    (t : ℕ) → t < length case.transformers → IsTrueVerdict case standing north east (threshold_of criteria.event) t (screen_row_at report.rows t).worst

-- a right report tells a transformer undecided only where its worst current is within one width of the threshold in every two solutions: not under it less the width, and under it with the width added
abbrev pub UndecidedIsNearThreshold : Type 0
UndecidedIsNearThreshold = (case : Lists) (standing : List Placed) (north east : ℕ → ℤ) (criteria : Criteria) (text : List ℕ) (report : ShowsRightRows case standing north east criteria text) →
    (t : ℕ) → t < length case.transformers → worst_verdict_at case (threshold_of criteria.event) t (screen_row_at report.rows t).worst ≡ Undecided →
    IsWorstAtLeast case standing north east (threshold_of criteria.event - criteria.width) t × IsWorstUnder case standing north east (threshold_of criteria.event + criteria.width) t
