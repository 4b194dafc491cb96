-- What a report of the mode has to say.
use Rattle.std.specs.Prelude.{◌≡◌, ℕ, ◌<◌, List, [], length, map, Option, IsTrue, IsFalse, ℤ, pos}
use Rattle.std.specs.List.{range_with_len}
use Rattle.gic_case.specs.Lists.{Lists}
use Rattle.gic_fixed.specs.Ends.{Ends}
use Rattle.gic_model.specs.declared.parts.Item.{Item}
use Rattle.gic_criteria.specs.declared.criterion.Verdict.{Verdict}
use Rattle.gic_criteria.specs.Event.{threshold_of, field_of}
use Rattle.gic_outage.specs.Plan.{plan_of}
use Rattle.gic_outage.specs.Removing.{is_idle}
use Rattle.gic_report.specs.declared.counts.Counts.{Counts}
use Rattle.gic_report.specs.Counts.{counts_of}
use Rattle.gic_criteria.specs.declared.asked.Criteria.{Criteria}
use Rattle.gic_inputs.specs.declared.inputs.Inputs.{Inputs}
use Rattle.gic_stand.specs.Standing.{standing_of, IsSolvable, IsNameOfUnearthed, IsNameOfUnresolved}
use Rattle.gic_uniform.specs.Uniform.{uniform_volts}
use Rattle.gic_worst.specs.RightRows.{IsThirdOfRight, worst_verdict_at}
use Rattle.gic_outage.specs.declared.outcome.OutageOutcome.{OutageOutcome}
use Rattle.gic_outage.specs.declared.outcome.OutageOutcome.TheVariants.{Idle, Unearthed, Unresolved, Solved}
use Rattle.gic_outage.specs.Outages.{Outage, standing_in_outage, item_at, outage_at, worst_at, worsts_of, greatest_worst}
use Rattle.gic_outage.specs.OutageText.{outage_text}

-- the voltages in nanovolts of the field of the event that is asked for, to the north and to the east
abbrev pub northward_volts : Inputs Criteria → ℕ → ℤ
northward_volts inputs = uniform_volts inputs.case (field_of inputs.question.event) (pos 0)

abbrev pub eastward_volts : Inputs Criteria → ℕ → ℤ
eastward_volts inputs = uniform_volts inputs.case (pos 0) (field_of inputs.question.event)

-- the threshold of the event in mA per phase
abbrev pub threshold_asked : Inputs Criteria → ℕ
threshold_asked inputs = threshold_of inputs.question.event

-- the item is taken out: with all switchings in force an element of it stands
abbrev pub IsTakenOut : Inputs Criteria → Item → Type 0
IsTakenOut inputs item = IsFalse (is_idle (standing_of inputs.case inputs.switchings) item)

-- the verdicts on all transformers of a case, by their worst intervals
abbrev pub worst_verdicts : Lists → (threshold : ℕ) → List Ends → List Verdict
worst_verdicts case threshold worsts = map (λ t. worst_verdict_at case threshold t (worst_at worsts t)) (range_with_len 0 (length case.transformers))

-- the network without the item can be solved, each worst interval there is the third of a right row, and the counts are those of the verdicts on these intervals
pub record AreRightWorsts (inputs : Inputs Criteria) (item : Item) (worsts : List Ends) (counts : Counts) : Type 0 where
  pub solvable : IsSolvable (standing_in_outage inputs item)
  pub count : length worsts ≡ length inputs.case.transformers
  pub right : (t : ℕ) → t < length inputs.case.transformers →
      IsThirdOfRight inputs.case (standing_in_outage inputs item) (northward_volts inputs) (eastward_volts inputs) inputs.question.width t (worst_at worsts t)
  pub counted : counts ≡ counts_of (worst_verdicts inputs.case (threshold_asked inputs) worsts)

-- the outage of an item ends as its network decides: it was idle; or the network without it has this first live node that is not earthed; or all are earthed, and this is the first with the entry 4097 in the least capped vector; or it is solved
abbrev pub EndsAs : Inputs Criteria → Item → List Ends → OutageOutcome → Type 0
EndsAs inputs item worsts Idle = IsTrue (is_idle (standing_of inputs.case inputs.switchings) item) × (worsts ≡ [])
EndsAs inputs item worsts (Unearthed node) = IsTakenOut inputs item × IsNameOfUnearthed inputs.case (standing_in_outage inputs item) node × (worsts ≡ [])
EndsAs inputs item worsts (Unresolved node) = IsTakenOut inputs item × IsNameOfUnresolved inputs.case (standing_in_outage inputs item) node × (worsts ≡ [])
EndsAs inputs item worsts (Solved counts) = IsTakenOut inputs item × AreRightWorsts inputs item worsts counts

-- an outage for each item of the plan, which ends as its network decides
pub record AreRightOutages (inputs : Inputs Criteria) (outages : List Outage) : Type 0 where
  pub count : length outages ≡ length (plan_of inputs.case)
  pub ends : (place : ℕ) → place < length (plan_of inputs.case) → EndsAs inputs (item_at inputs.case place) (outage_at outages place).worsts (outage_at outages place).outcome

-- the greatest worst intervals of the transformers of a case over outages
abbrev pub greatest_over : Lists → List Outage → List (Option Ends)
greatest_over case outages = map (λ t. greatest_worst (worsts_of outages t)) (range_with_len 0 (length case.transformers))

-- the text is that of such outages: one list of worst intervals stands behind the counts and the greatest intervals
pub record IsRightOutage (inputs : Inputs Criteria) (text : List ℕ) : Type 0 where
  pub outages : List Outage
  pub answer : AreRightOutages inputs outages
  pub text_is : text ≡ outage_text inputs.case inputs.question (map (λ outage. outage.outcome) outages) (greatest_over inputs.case outages)
