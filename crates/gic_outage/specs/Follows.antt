-- What follows of a right report of outages.
use Rattle.std.specs.Prelude.{◌≡◌, ℕ, ◌+◌, ◌-◌, ◌*◌, ◌<◌, ◌≤◌, List, length, None, Some, IfSome, Contains, ℤ, pos, ◌*ℤ◌, ◌≤ℤ◌, Bool, ◌&&◌, nat_lt, nat_le}
use Rattle.gic_case.specs.Lists.{Lists}
use Rattle.gic_case.specs.Sound.{IsSound}
use Rattle.gic_fixed.specs.Ends.{Ends}
use Rattle.gic_model.specs.declared.parts.Item.{Item}
use Rattle.gic_model.specs.Solution.{Solution}
use Rattle.gic_model.specs.Sums.{Placed}
use Rattle.gic_effective.specs.Narrow.{IsNoWider}
use Rattle.gic_effective.specs.Weighted.{effective_denominator}
use Rattle.gic_criteria.specs.declared.criterion.Verdict.TheVariants.{Below, Reaches, Undecided}
use Rattle.gic_criteria.specs.Worst.{square_of}
use Rattle.gic_outage.specs.Plan.{plan_of}
use Rattle.gic_report.specs.declared.counts.Counts.{Counts}
use Rattle.gic_report.specs.Counts.{transformers_with}
use Rattle.gic_report.specs.VerdictText.{IsAcross, is_judged}
use Rattle.gic_criteria.specs.declared.asked.Criteria.{Criteria}
use Rattle.gic_inputs.specs.declared.inputs.Inputs.{Inputs}
use Rattle.gic_stand.specs.Standing.{IsSolvable}
use Rattle.gic_worst.specs.RightRows.{AreSolutionsOf, IsTrueVerdict, IsWorstUnder, IsWorstAtLeast, squared_worst, squared_threshold, worst_verdict_at}
use Rattle.gic_outage.specs.Outages.{Outage, standing_in_outage, worst_at, worsts_of, greatest_worst}
use Rattle.gic_outage.specs.RightOutage.{northward_volts, eastward_volts, threshold_asked, IsTakenOut, AreRightWorsts, AreRightOutages}

-- an item of the case without which the network can be solved
pub record IsSolvedOutage (inputs : Inputs Criteria) (item : Item) : Type 0 where
  pub planned : Contains (plan_of inputs.case) item
  pub taken_out : IsTakenOut inputs item
  pub solvable : IsSolvable (standing_in_outage inputs item)

-- the square of an end of a transformer's interval, times the squares of the two denominators, as `squared_worst` is
abbrev pub squared_end : Lists → (end : ℤ) → (t : ℕ) → (one other : Solution) → ℕ
squared_end case end t one other = square_of (end *ℤ pos (effective_denominator case t one * effective_denominator case t other))

-- the transformer's current for the worst orientation is at most a high end in mA per phase, which is not below 0, in every two solutions
abbrev pub IsWorstUpTo : Lists → List Placed → (north east : ℕ → ℤ) → (high : ℤ) → (t : ℕ) → Type 0
IsWorstUpTo case standing north east high t =
    (one other : Solution) → AreSolutionsOf standing north east one other → (pos 0 ≤ℤ high) × (squared_worst case t one other ≤ squared_end case high t one other)

-- it is at least a low end in mA per phase, which is not below 0, in every two solutions
abbrev pub IsWorstFrom : Lists → List Placed → (north east : ℕ → ℤ) → (low : ℤ) → (t : ℕ) → Type 0
IsWorstFrom case standing north east low t =
    (one other : Solution) → AreSolutionsOf standing north east one other → (pos 0 ≤ℤ low) × (squared_end case low t one other ≤ squared_worst case t one other)

-- the interval encloses the greatest of the transformer's currents for the worst orientation over the solved outages: in each of them the current is at most the high end, and in one of them it is at least the low end
pub record EnclosesGreatestWorst (inputs : Inputs Criteria) (t : ℕ) (greatest : Ends) : Type 0 where
  pub most : (item : Item) → IsSolvedOutage inputs item →
      IsWorstUpTo inputs.case (standing_in_outage inputs item) (northward_volts inputs) (eastward_volts inputs) greatest.high t
  pub item : Item
  pub solved : IsSolvedOutage inputs item
  pub least : IsWorstFrom inputs.case (standing_in_outage inputs item) (northward_volts inputs) (eastward_volts inputs) greatest.low t

-- there is one without which the transformer's current for the worst orientation is the threshold or more
pub record IsWorstAtLeastOnce (inputs : Inputs Criteria) (threshold t : ℕ) : Type 0 where
  pub item : Item
  pub solved : IsSolvedOutage inputs item
  pub at_least : IsWorstAtLeast inputs.case (standing_in_outage inputs item) (northward_volts inputs) (eastward_volts inputs) threshold t

-- the verdict on a transformer's greatest worst interval is true: below a threshold only where it is in every solved outage, reached only where it is in one, and undecided only where the interval lies across it
pub record IsTrueOverOutages (inputs : Inputs Criteria) (threshold t : ℕ) (greatest : Ends) : Type 0 where
  pub below : worst_verdict_at inputs.case threshold t greatest ≡ Below → (item : Item) → IsSolvedOutage inputs item →
      IsWorstUnder inputs.case (standing_in_outage inputs item) (northward_volts inputs) (eastward_volts inputs) threshold t
  pub reaches : worst_verdict_at inputs.case threshold t greatest ≡ Reaches → IsWorstAtLeastOnce inputs threshold t
  pub undecided : worst_verdict_at inputs.case threshold t greatest ≡ Undecided → IsAcross threshold greatest

-- the transformer at a place is assessed, and its current for the worst orientation in two solutions is within one width of the threshold: not under the threshold less the width, and under the threshold with the width added
abbrev pub is_worst_near : Lists → (width threshold : ℕ) → (one other : Solution) → (t : ℕ) → Bool
is_worst_near case width threshold one other t =
    is_judged case t && (nat_le (squared_threshold case (threshold - width) t one other) (squared_worst case t one other)
    && nat_lt (squared_worst case t one other) (squared_threshold case (threshold + width) t one other))

-- over right outages, the greatest worst interval of each transformer encloses its greatest worst current
abbrev pub GreatestWorstIsEnclosed : Type 0
GreatestWorstIsEnclosed = (inputs : Inputs Criteria) (outages : List Outage) → AreRightOutages inputs outages → (t : ℕ) → t < length inputs.case.transformers →
    IfSome (greatest_worst (worsts_of outages t)) (EnclosesGreatestWorst inputs t)

-- it is no wider than asked
abbrev pub GreatestWorstIsNarrow : Type 0
GreatestWorstIsNarrow = (inputs : Inputs Criteria) (outages : List Outage) → AreRightOutages inputs outages → (t : ℕ) → t < length inputs.case.transformers →
    IsNoWider inputs.question.width (greatest_worst (worsts_of outages t))

-- there is none only where no outage is solved
abbrev pub NoneIsWithoutSolvedOutage : Type 0
NoneIsWithoutSolvedOutage = (inputs : Inputs Criteria) (outages : List Outage) → AreRightOutages inputs outages → (t : ℕ) → t < length inputs.case.transformers →
    greatest_worst (worsts_of outages t) ≡ None → (item : Item) → ¬ IsSolvedOutage inputs item

-- of a sound case, the verdict on it is true
abbrev pub GreatestVerdictIsTrue : Type 0
GreatestVerdictIsTrue = (inputs : Inputs Criteria) (outages : List Outage) → IsSound inputs.case → AreRightOutages inputs outages → (t : ℕ) → t < length inputs.case.transformers →
    IfSome (greatest_worst (worsts_of outages t)) (IsTrueOverOutages inputs (threshold_asked inputs) t)

-- it is undecided only where its greatest worst current is within one width of the threshold: in one solved outage not under it less the width, and in each under it with the width added
abbrev pub GreatestUndecidedIsNear : Type 0
GreatestUndecidedIsNear = (inputs : Inputs Criteria) (outages : List Outage) → IsSound inputs.case → AreRightOutages inputs outages → (t : ℕ) → t < length inputs.case.transformers →
    (greatest : Ends) → greatest_worst (worsts_of outages t) ≡ Some greatest → worst_verdict_at inputs.case (threshold_asked inputs) t greatest ≡ Undecided →
    IsWorstAtLeastOnce inputs (threshold_asked inputs - inputs.question.width) t × ((item : Item) → IsSolvedOutage inputs item →
    IsWorstUnder inputs.case (standing_in_outage inputs item) (northward_volts inputs) (eastward_volts inputs) (threshold_asked inputs + inputs.question.width) t)

-- of a sound case, in an outage that is solved, the verdict on each transformer's worst interval is true
abbrev pub WorstVerdictIsTrue : Type 0
WorstVerdictIsTrue = (inputs : Inputs Criteria) (item : Item) (worsts : List Ends) (counts : Counts) → IsSound inputs.case → AreRightWorsts inputs item worsts counts →
    (t : ℕ) → t < length inputs.case.transformers →
    IsTrueVerdict inputs.case (standing_in_outage inputs item) (northward_volts inputs) (eastward_volts inputs) (threshold_asked inputs) t (worst_at worsts t)

-- of a sound case, at least as many transformers as an outage that is solved counts undecided have a worst current within one width of the threshold, in every two solutions
abbrev pub UndecidedAreAtMostNear : Type 0
UndecidedAreAtMostNear = (inputs : Inputs Criteria) (item : Item) (worsts : List Ends) (counts : Counts) → IsSound inputs.case → AreRightWorsts inputs item worsts counts →
    (one other : Solution) → AreSolutionsOf (standing_in_outage inputs item) (northward_volts inputs) (eastward_volts inputs) one other →
    counts.undecided ≤ transformers_with inputs.case (is_worst_near inputs.case inputs.question.width (threshold_asked inputs) one other)
