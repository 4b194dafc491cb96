-- What follows of a right report of the mode.
use Rattle.std.specs.Prelude.{◌≡◌, ℕ, ◌<◌, ◌≤◌, List, length, ℤ}
use Rattle.gic_criteria.specs.declared.asked.RobustCriteria.{RobustCriteria}
use Rattle.gic_criteria.specs.Event.{threshold_of}
use Rattle.gic_criteria.specs.declared.criterion.Verdict.TheVariants.{Below, Reaches, Undecided}
use Rattle.gic_fixed.specs.Ends.{Ends}
use Rattle.gic_model.specs.Solution.{Solution}
use Rattle.gic_report.specs.VerdictText.{IsAcross}
use Rattle.gic_worst.specs.RightRows.{squared_worst, squared_threshold, worst_verdict_at}
use Rattle.gic_worst.specs.Rows.{screen_row_at}
use Rattle.gic_grounds.specs.Tolerated.{Tolerated}
use Rattle.gic_robust.specs.RightRobust.{AreVariedSolutionsOf, ShowsRobustRows}

-- the transformer's current for the worst orientation is under the threshold in every two varied solutions: no resistances of their ranges at the grounds bring it there
abbrev pub IsUnderWhateverGrounds : Tolerated → (north east : ℕ → ℤ) → (threshold t : ℕ) → Type 0
IsUnderWhateverGrounds v north east threshold t =
    (one other : Solution) → AreVariedSolutionsOf v north east one other → squared_worst v.case t one other < squared_threshold v.case threshold t one other

-- it is the threshold or more in every two: none take it below
abbrev pub IsAtLeastWhateverGrounds : Tolerated → (north east : ℕ → ℤ) → (threshold t : ℕ) → Type 0
IsAtLeastWhateverGrounds v north east threshold t =
    (one other : Solution) → AreVariedSolutionsOf v north east one other → squared_threshold v.case threshold t one other ≤ squared_worst v.case t one other

-- the verdict on the worst interval is true of every two varied solutions, and undecided only where it lies across the threshold
pub record IsTrueWhateverGrounds (v : Tolerated) (north east : ℕ → ℤ) (threshold t : ℕ) (worst : Ends) : Type 0 where
  pub below : worst_verdict_at v.case threshold t worst ≡ Below → IsUnderWhateverGrounds v north east threshold t
  pub reaches : worst_verdict_at v.case threshold t worst ≡ Reaches → IsAtLeastWhateverGrounds v north east threshold t
  pub undecided : worst_verdict_at v.case threshold t worst ≡ Undecided → IsAcross threshold worst

-- so is the verdict on the worst interval of each row of a right report
abbrev pub RobustVerdictsAreTrue : Type 0
RobustVerdictsAreTrue = (v : Tolerated) (north east : ℕ → ℤ) (asked : RobustCriteria) (text : List ℕ) (report : ShowsRobustRows v north east asked text) →
    (t : ℕ) → t < length v.case.transformers → IsTrueWhateverGrounds v north east (threshold_of asked.criteria.event) t (screen_row_at report.rows t).worst
