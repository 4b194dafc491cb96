-- What is true of each report of the exact potentials and currents. In each record `report` has what is printed: that the intervals hold their exact values in every solution, no wider than asked where a width is asked for, and the text with these intervals. The other fields follow from it.
use Rattle.std.specs.Prelude.{◌≡◌, ℕ, ◌<◌, List, length, Option, None, IfSome}
use Rattle.gic_case.specs.Lists.{node_names}
use Rattle.gic_fixed.specs.Ends.{Ends}
use Rattle.gic_model.specs.declared.parts.Element.{Element}
use Rattle.gic_model.specs.declared.parts.Item.{Item}
use Rattle.gic_model.specs.Earthing.{AreEarthed}
use Rattle.gic_model.specs.Solution.{Solution}
use Rattle.gic_winding.specs.ElementList.{earthings_of}
use Rattle.gic_effective.specs.Narrow.{IsNarrowView, IsNoWider}
use Rattle.gic_effective.specs.RightView.{IsRightNode}
use Rattle.gic_criteria.specs.Event.{threshold_of}
use Rattle.gic_criteria.specs.declared.asked.Criteria.{Criteria}
use Rattle.gic_criteria.specs.declared.asked.Question.{Question}
use Rattle.gic_criteria.specs.declared.asked.RobustCriteria.{RobustCriteria}
use Rattle.gic_criteria.specs.declared.asked.UniformField.{UniformField}
use Rattle.gic_inputs.specs.declared.inputs.Inputs.{Inputs}
use Rattle.gic_inputs.specs.declared.inputs.StormInputs.{StormInputs}
use Rattle.gic_ask.specs.Network.{inputs_over}
use Rattle.gic_ask.specs.declared.request.NetworkAsked.{NetworkAsked}
use Rattle.gic_ask.specs.declared.request.Asked.{Asked}
use Rattle.gic_ask.specs.declared.request.Asked.TheVariants.{Network, Study, Make, Recheck, Series, Robust}
use Rattle.gic_words.specs.declared.mode.NetworkMode.{NetworkMode}
use Rattle.gic_words.specs.declared.mode.NetworkMode.TheVariants as mode
use Rattle.gic_monitor.specs.DwellText.{dwell_text}
use Rattle.gic_monitor.specs.EarthText.{earth_text}
use Rattle.gic_monitor.specs.RosterView.{RosterView}
use Rattle.gic_report.specs.declared.counts.Counts.{Counts}
use Rattle.gic_stand.specs.Standing.{standing_of}
use Rattle.gic_uniform.specs.Uniform.{uniform_volts}
use Rattle.gic_worst.specs.RightRows.{IsTrueVerdict}
use Rattle.gic_worst.specs.Rows.{screen_row_at}
use Rattle.gic_volts.specs.RightVolts.{IsRightVolts}
use Rattle.gic_list.specs.RightList.{IsRightList}
use Rattle.gic_review.specs.RightReview.{IsRightReview}
use Rattle.gic_robust.specs.Follows.{IsTrueWhateverGrounds}
use Rattle.gic_robust.specs.RightRobust.{IsRightRobust}
use Rattle.gic_robust.specs.Steps.{tolerated_of}
use Rattle.gic_check.specs.RightCheck.{IsRightCheck}
use Rattle.gic_field.specs.Follows.{AreRightAbsolutes, AreTrueVerdicts}
use Rattle.gic_field.specs.RightField.{IsRightField, asked_volts}
use Rattle.gic_screen_mode.specs.RightScreen.{IsRightScreen}
use Rattle.gic_outage.specs.Follows.{IsSolvedOutage, EnclosesGreatestWorst, IsTrueOverOutages}
use Rattle.gic_outage.specs.Outages.{standing_in_outage, worst_at, worsts_of, greatest_worst}
use Rattle.gic_outage.specs.RightOutage.{IsRightOutage, AreRightWorsts, northward_volts, eastward_volts, threshold_asked}
use Rattle.gic_study_mode.specs.PeakEnclosure.{AreStepSolutions, AreEnclosing}
use Rattle.gic_study_mode.specs.PeakVerdicts.{AreTruePeakVerdicts}
use Rattle.gic_study_mode.specs.RightStudy.{IsRightStudy}
use Rattle.gic_study_mode.specs.Roster.{roster_of}
use Rattle.gic_series.specs.RightSeries.{IsRightSeries}
use Rattle.gic_make.specs.MadeCase.{made_case}
use Rattle.gic_make.specs.RightMake.{IsRightMake, benchmark_volts}
use Rattle.gic_certify.specs.Follows.{HoldsSolutions}
use Rattle.gic_certify.specs.RightCertify.{IsRightCertify}
use Rattle.gic_recheck.specs.Follows.{certificate_volts}
use Rattle.gic_recheck.specs.RightRecheck.{IsRightRecheck, potential_of}
use Rattle.gic_laws.specs.Dwells.{IsTrueDwell}
use Rattle.gic_laws.specs.Earthings.{IsTrueEarthing}
use Rattle.gic_laws.specs.Losses.{AreTrueLosses}
use Rattle.gic_laws.specs.Printed.{HasTrueLines}
use Rattle.gic_study.specs.Modes.{Plans}
use Rattle.gic_headline.specs.Directions.{HasWorstDirection}
use Rattle.gic_headline.specs.Grounds.{screened, AreGroundsOf, AreTrueWith}
use Rattle.gic_headline.specs.Solved.{HasOneSolution, AreStepsSolved}

-- what monitors are told of the case
abbrev pub storm_roster : StormInputs → RosterView
storm_roster inputs = roster_of inputs.case inputs.question.event

-- the text tells which nodes are live, and each of them is earthed
pub record IsTrueCheck (inputs : Inputs (Unit {0})) (text : List ℕ) : Type 0 where
  pub report : IsRightCheck inputs text
  pub earthed : AreEarthed (standing_of inputs.case inputs.switchings)

-- of `field`: the absolute intervals hold and are no wider than asked, and verdicts are true, each whatever solves the network; and something solves it
pub record IsTrueField (inputs : Inputs Question) (text : List ℕ) : Type 0 where
  pub report : IsRightField inputs text
  pub absolutes : AreRightAbsolutes inputs.case (standing_of inputs.case inputs.switchings) (asked_volts inputs) inputs.question.criteria.width report.view
  pub verdicts : AreTrueVerdicts inputs.case (standing_of inputs.case inputs.switchings) (asked_volts inputs) (threshold_of inputs.question.criteria.event) report.view
  pub solved : HasOneSolution (standing_of inputs.case inputs.switchings) (asked_volts inputs)

-- of `screen`: each verdict is true of the worst current, whatever solves the network in the two fields, and no direction of the event's field gives more than that current
pub record IsTrueScreen (inputs : Inputs Criteria) (text : List ℕ) : Type 0 where
  pub report : IsRightScreen inputs text
  pub verdicts : (t : ℕ) → t < length inputs.case.transformers →
      IsTrueVerdict inputs.case (standing_of inputs.case inputs.switchings) (northward_volts inputs) (eastward_volts inputs) (threshold_of inputs.question.event) t (screen_row_at report.rows t).worst
  pub directions : HasWorstDirection inputs (standing_of inputs.case inputs.switchings)

-- of `robust`: each verdict is true of every two varied solutions, whose grounds may have any resistance of their ranges, whole or not; and in every network whose grounds have resistances of their ranges, in whole micro-ohm, the intervals hold and the verdicts are true, whatever solves it, something does, and no direction of the event's field gives more than the worst current
pub record IsTrueRobust (inputs : Inputs RobustCriteria) (text : List ℕ) : Type 0 where
  pub report : IsRightRobust inputs text
  pub verdicts : (t : ℕ) → t < length inputs.case.transformers →
      IsTrueWhateverGrounds (tolerated_of inputs) (northward_volts (screened inputs)) (eastward_volts (screened inputs)) (threshold_of inputs.question.criteria.event) t (screen_row_at report.rows t).worst
  pub whatever_grounds : (ohm : Element → ℕ) → AreGroundsOf inputs ohm → AreTrueWith inputs report.rows ohm

-- of `outage`: the interval of each transformer holds its greatest worst current over all outages that can be solved, and is no wider than asked; there is none only where no outage can be solved; the verdict on it is true, and so is each verdict that an outage counts; and in each of these networks no direction gives more
pub record IsTrueOutage (inputs : Inputs Criteria) (text : List ℕ) : Type 0 where
  pub report : IsRightOutage inputs text
  pub greatest : (t : ℕ) → t < length inputs.case.transformers → IfSome (greatest_worst (worsts_of report.outages t)) (EnclosesGreatestWorst inputs t)
  pub narrow : (t : ℕ) → t < length inputs.case.transformers → IsNoWider inputs.question.width (greatest_worst (worsts_of report.outages t))
  pub none : (t : ℕ) → t < length inputs.case.transformers → greatest_worst (worsts_of report.outages t) ≡ None → (item : Item) → ¬ IsSolvedOutage inputs item
  pub verdicts : (t : ℕ) → t < length inputs.case.transformers → IfSome (greatest_worst (worsts_of report.outages t)) (IsTrueOverOutages inputs (threshold_asked inputs) t)
  pub counted : (item : Item) (worsts : List Ends) (counts : Counts) → AreRightWorsts inputs item worsts counts → (t : ℕ) → t < length inputs.case.transformers →
      IsTrueVerdict inputs.case (standing_in_outage inputs item) (northward_volts inputs) (eastward_volts inputs) (threshold_asked inputs) t (worst_at worsts t)
  pub directions : (item : Item) → IsSolvedOutage inputs item → HasWorstDirection inputs (standing_in_outage inputs item)

-- of `study`: whatever solves the network of each step, each peak holds the greatest absolute value over the steps, and is no wider than asked; the verdicts on them are true; what monitors of dwells, of earthings and of losses print, where they are among those that see these views, is true of the exact currents; and something solves the network of each step
pub record IsTrueStudy (inputs : StormInputs) (detail : Option ℕ) (plans : Plans) (text : List ℕ) : Type 0 where
  pub report : IsRightStudy inputs detail plans text
  pub peaks : (solutions : ℕ → Solution) → AreStepSolutions inputs solutions → AreEnclosing inputs report.peaks solutions
  pub narrow : IsNarrowView inputs.case inputs.question.width report.peaks
  pub verdicts : AreTruePeakVerdicts inputs (threshold_of inputs.question.event) report.peaks
  pub dwells : (solutions : ℕ → Solution) → AreStepSolutions inputs solutions →
      HasTrueLines (length inputs.case.transformers) (IsTrueDwell inputs solutions) (dwell_text (storm_roster inputs) report.views)
  pub earthings : (solutions : ℕ → Solution) → AreStepSolutions inputs solutions →
      HasTrueLines (length (earthings_of inputs.case)) (IsTrueEarthing inputs solutions) (earth_text (storm_roster inputs) report.views)
  pub losses : AreTrueLosses inputs report.views
  pub solved : AreStepsSolved inputs

-- of `series`: something solves the network of each step, whose lines hold what they say of every solution
pub record IsTrueSeries (inputs : StormInputs) (transformer : ℕ) (text : List ℕ) : Type 0 where
  pub report : IsRightSeries inputs transformer text
  pub solved : AreStepsSolved inputs

-- of `make`: the counts are of a network that something solves
pub record IsTrueMake (seed size : ℕ) (text : List ℕ) : Type 0 where
  pub report : IsRightMake seed size text
  pub solved : HasOneSolution (standing_of (made_case seed size) None) (benchmark_volts (made_case seed size))

-- of `certify`: each live node's potential lies within its radius, whatever solves the network, and something does
pub record IsTrueCertify (inputs : Inputs UniformField) (text : List ℕ) : Type 0 where
  pub report : IsRightCertify inputs text
  pub holds : HoldsSolutions (standing_of inputs.case inputs.switchings) (uniform_volts inputs.case inputs.question.north inputs.question.east) report.certificate
  pub solved : HasOneSolution (standing_of inputs.case inputs.switchings) (uniform_volts inputs.case inputs.question.north inputs.question.east)

-- of `recheck`, whoever made the certificate: each interval holds its node's potential, whatever solves the network in the certificate's field, and something does
pub record IsTrueRecheck (inputs : Inputs (Unit {0})) (bytes text : List ℕ) : Type 0 where
  pub report : IsRightRecheck inputs bytes text
  pub holds : (k : ℕ) → k < length (node_names inputs.case) →
      IsRightNode (standing_of inputs.case inputs.switchings) (certificate_volts inputs.case report.certificate) k (potential_of report.certificate k)
  pub solved : HasOneSolution (standing_of inputs.case inputs.switchings) (certificate_volts inputs.case report.certificate)

-- one row a mode over the network of a case, each by what it has a use for: the field, the criteria, both or neither. The voltages, the elements and the findings of `volts`, `list` and `review` are exact, and speak of no solution
abbrev pub IsTrueOver : NetworkMode → NetworkAsked → (text : List ℕ) → Type 0
IsTrueOver mode.Volts a = IsRightVolts (inputs_over a.question.field a)
IsTrueOver mode.List a = IsRightList (inputs_over (tt {0}) a)
IsTrueOver mode.Check a = IsTrueCheck (inputs_over (tt {0}) a)
IsTrueOver mode.Field a = IsTrueField (inputs_over a.question a)
IsTrueOver mode.Screen a = IsTrueScreen (inputs_over a.question.criteria a)
IsTrueOver mode.Certify a = IsTrueCertify (inputs_over a.question.field a)
IsTrueOver mode.Outage a = IsTrueOutage (inputs_over a.question.criteria a)
IsTrueOver mode.Review a = IsRightReview (inputs_over (tt {0}) a)

-- one row for these, and one for each other mode
abbrev pub IsTrueReport : Plans → Asked → (text : List ℕ) → Type 0
IsTrueReport plans (Network m a) = IsTrueOver m a
IsTrueReport plans (Study asked) = IsTrueStudy asked.inputs asked.detail plans
IsTrueReport plans (Make r) = IsTrueMake r.seed r.size
IsTrueReport plans (Recheck asked) = IsTrueRecheck asked.inputs asked.certificate
IsTrueReport plans (Series asked) = IsTrueSeries asked.inputs asked.transformer
IsTrueReport plans (Robust inputs) = IsTrueRobust inputs
