-- What is right of a transformer in two fields of one network, and when a verdict on its worst interval is true.
use Rattle.std.specs.Prelude.{◌≡◌, ℕ, ◌<◌, ◌≤◌, List, ℤ, ◌≤ℤ◌}
use Rattle.gic_case.specs.Lists.{Lists}
use Rattle.gic_fixed.specs.Ends.{Ends, IsAtMostWide}
use Rattle.gic_model.specs.Solution.{Solution, IsSolution}
use Rattle.gic_model.specs.Sums.{Placed}
use Rattle.gic_winding.specs.Weights.{transformer_at}
use Rattle.gic_effective.specs.RightView.{IsRightEffective}
use Rattle.gic_effective.specs.Weighted.{effective_numerator, effective_denominator}
use Rattle.gic_criteria.specs.declared.criterion.Verdict.{Verdict}
use Rattle.gic_criteria.specs.declared.criterion.Verdict.TheVariants.{Below, Reaches, Undecided}
use Rattle.gic_criteria.specs.VerdictLaws.{threshold_square, worst_square}
use Rattle.gic_criteria.specs.Worst.{EnclosesWorst, IsWorstOf}
use Rattle.gic_report.specs.VerdictText.{IsAcross, verdict_in}
use Rattle.gic_worst.specs.Rows.{ScreenRowView}

-- solutions of one network for the voltages of the field to the north and of the field to the east
pub record AreSolutionsOf (standing : List Placed) (north east : ℕ → ℤ) (to_north to_east : Solution) : Type 0 where
  pub in_north : IsSolution standing north to_north
  pub in_east : IsSolution standing east to_east

-- the interval holds the transformer's current for the worst orientation in every two solutions; it ends no lower than it begins, and is no wider than asked
pub record IsRightWorst (case : Lists) (standing : List Placed) (north east : ℕ → ℤ) (width t : ℕ) (worst : Ends) : Type 0 where
  pub holds : (one other : Solution) → AreSolutionsOf standing north east one other →
      EnclosesWorst worst.low worst.high (effective_numerator case one t) (effective_denominator case t one) (effective_numerator case other t) (effective_denominator case t other)
  pub in_order : worst.low ≤ℤ worst.high
  pub narrow : IsAtMostWide width worst.low worst.high

-- each interval holds what it stands for in every solution, none is wider than asked, and the third is the worst interval of the other two
pub record IsRightRow (case : Lists) (standing : List Placed) (north east : ℕ → ℤ) (width t : ℕ) (row : ScreenRowView) : Type 0 where
  pub to_north : IsRightEffective case standing north t row.north
  pub to_east : IsRightEffective case standing east t row.east
  pub at_worst : IsRightWorst case standing north east width t row.worst
  pub north_narrow : IsAtMostWide width row.north.low row.north.high
  pub east_narrow : IsAtMostWide width row.east.low row.east.high
  pub worst_is : IsWorstOf row.north row.east row.worst

-- the interval is the third of a right row
pub record IsThirdOfRight (case : Lists) (standing : List Placed) (north east : ℕ → ℤ) (width t : ℕ) (worst : Ends) : Type 0 where
  pub row : ScreenRowView
  pub right : IsRightRow case standing north east width t row
  pub is : worst ≡ row.worst

-- the square of the transformer's current for the worst orientation, and that of a threshold in mA per phase, both times the squares of the two denominators
abbrev pub squared_worst : Lists → (t : ℕ) → (one other : Solution) → ℕ
squared_worst case t one other = worst_square (effective_numerator case one t) (effective_denominator case t one) (effective_numerator case other t) (effective_denominator case t other)

abbrev pub squared_threshold : Lists → (threshold t : ℕ) → (one other : Solution) → ℕ
squared_threshold case threshold t one other = threshold_square threshold (effective_denominator case t one) (effective_denominator case t other)

-- the transformer's current for the worst orientation is under the threshold in every two solutions
abbrev pub IsWorstUnder : Lists → List Placed → (north east : ℕ → ℤ) → (threshold t : ℕ) → Type 0
IsWorstUnder case standing north east threshold t =
    (one other : Solution) → AreSolutionsOf standing north east one other → squared_worst case t one other < squared_threshold case threshold t one other

-- it is the threshold or more in every two solutions
abbrev pub IsWorstAtLeast : Lists → List Placed → (north east : ℕ → ℤ) → (threshold t : ℕ) → Type 0
IsWorstAtLeast case standing north east threshold t =
    (one other : Solution) → AreSolutionsOf standing north east one other → squared_threshold case threshold t one other ≤ squared_worst case t one other

-- the verdict on the transformer at a place of the case whose current for the worst orientation is in this interval, against a threshold in mA
abbrev pub worst_verdict_at : Lists → (threshold t : ℕ) → Ends → Verdict
worst_verdict_at case threshold t worst = verdict_in threshold (transformer_at case t) worst

-- the verdict on the worst interval is true of every two solutions, and undecided only where it lies across the threshold
pub record IsTrueVerdict (case : Lists) (standing : List Placed) (north east : ℕ → ℤ) (threshold t : ℕ) (worst : Ends) : Type 0 where
  pub below : worst_verdict_at case threshold t worst ≡ Below → IsWorstUnder case standing north east threshold t
  pub reaches : worst_verdict_at case threshold t worst ≡ Reaches → IsWorstAtLeast case standing north east threshold t
  pub undecided : worst_verdict_at case threshold t worst ≡ Undecided → IsAcross threshold worst
