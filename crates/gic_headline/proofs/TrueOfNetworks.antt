-- What is true of the reports over one network.
use Rattle.std.proofs.Common.{ℕ, List, [], ◌∷◌, ◌++◌, arith}
use Rattle.gic_case.specs.Sound.{IsSound}
use Rattle.gic_model.specs.Earthing.{AreEarthed}
use Rattle.gic_model.specs.Standing.{stands_after}
use Rattle.gic_exists.specs.Exists.{EarthedNetworksAreSolved, SolutionsAgree}
use Rattle.gic_claims.specs.Claims.{BoundNetworksAreEarthed}
use Rattle.gic_winding.specs.Degrees.{ElementsAreWithinLimits}
use Rattle.gic_winding.specs.ElementList.{elements_of}
use Rattle.gic_cert.specs.Written.{entry_of}
use Rattle.gic_inputs.specs.Inputs.{rows_in}
use Rattle.gic_criteria.specs.declared.asked.Criteria.{Criteria}
use Rattle.gic_criteria.specs.declared.asked.Question.{Question}
use Rattle.gic_criteria.specs.declared.asked.UniformField.{UniformField}
use Rattle.gic_inputs.specs.declared.inputs.Inputs.{Inputs}
use Rattle.gic_stand.specs.Needs.{Earthed, Solved, IsMet}
use Rattle.gic_stand.specs.Standing.{IsSolvable, standing_of, steps_of}
use Rattle.gic_uniform.specs.Uniform.{uniform_volts}
use Rattle.gic_check.specs.RightCheck.{IsRightCheck}
use Rattle.gic_field.specs.Follows.{AbsolutesAreRight, FieldVerdictsAreTrue}
use Rattle.gic_field.specs.RightField.{IsRightField, asked_volts}
use Rattle.gic_screen_mode.specs.Follows.{ScreenVerdictsAreTrue}
use Rattle.gic_screen_mode.specs.RightScreen.{IsRightScreen}
use Rattle.gic_outage.specs.Follows.{GreatestWorstIsEnclosed, GreatestWorstIsNarrow, NoneIsWithoutSolvedOutage, GreatestVerdictIsTrue, WorstVerdictIsTrue}
use Rattle.gic_outage.specs.Removing.{opening}
use Rattle.gic_outage.specs.RightOutage.{IsRightOutage, northward_volts, eastward_volts}
use Rattle.gic_certify.specs.Follows.{RightCertificatesHold}
use Rattle.gic_certify.specs.RightCertify.{IsRightCertify}
use Rattle.gic_recheck.specs.Follows.{AcceptedIntervalsHold, certificate_volts}
use Rattle.gic_recheck.specs.RightRecheck.{IsRightRecheck}
use Rattle.gic_laws.specs.Orientation.{NoFieldGivesMore, AlignedFieldGivesAsMuch}
use Rattle.gic_headline.specs.TrueReports.{IsTrueCheck, IsTrueField, IsTrueScreen, IsTrueOutage, IsTrueCertify, IsTrueRecheck}
use Rattle.gic_headline.proofs.OneSolution.{one_solution, worst_direction}

-- the one step of a run without a storm
earthed_once : {Q : Type 0} (inputs : Inputs Q) → IsMet Earthed (steps_of inputs) → AreEarthed (standing_of inputs.case inputs.switchings)
earthed_once inputs met = met 0 (omega arith)

solvable_once : {Q : Type 0} (inputs : Inputs Q) → IsMet Solved (steps_of inputs) → IsSolvable (standing_of inputs.case inputs.switchings)
solvable_once inputs met = met 0 (omega arith)

pub true_check : (inputs : Inputs (Unit {0})) (text : List ℕ) → IsMet Earthed (steps_of inputs) → IsRightCheck inputs text → IsTrueCheck inputs text
true_check inputs text met right = record { report = right; earthed = earthed_once inputs met }

module _ (exist : EarthedNetworksAreSolved) (agree : SolutionsAgree) (limits : ElementsAreWithinLimits) where
  pub true_field : (inputs : Inputs Question) (text : List ℕ) → IsSound inputs.case → AbsolutesAreRight → FieldVerdictsAreTrue → IsMet Solved (steps_of inputs) → IsRightField inputs text → IsTrueField inputs text
  true_field inputs text sound absolutes verdicts met right = record {
    report = right;
    absolutes = absolutes inputs.case (standing_of inputs.case inputs.switchings) (asked_volts inputs) inputs.question text right;
    verdicts = verdicts inputs.case (standing_of inputs.case inputs.switchings) (asked_volts inputs) inputs.question text right;
    solved = one_solution exist agree limits inputs.case sound (rows_in inputs.switchings) (solvable_once inputs met).earthed (asked_volts inputs);
  }

  pub true_screen : (inputs : Inputs Criteria) (text : List ℕ) → IsSound inputs.case → ScreenVerdictsAreTrue → NoFieldGivesMore → AlignedFieldGivesAsMuch → IsMet Solved (steps_of inputs) → IsRightScreen inputs text → IsTrueScreen inputs text
  true_screen inputs text sound verdicts more aligned met right = record {
    report = right;
    verdicts = verdicts inputs.case (standing_of inputs.case inputs.switchings) (northward_volts inputs) (eastward_volts inputs) inputs.question text right;
    directions = worst_direction exist agree limits more aligned inputs sound (elements_of inputs.case) (stands_after (rows_in inputs.switchings)) (limits inputs.case sound) (solvable_once inputs met).earthed;
  }

  pub true_outage : (inputs : Inputs Criteria) (text : List ℕ) → IsSound inputs.case → GreatestWorstIsEnclosed → GreatestWorstIsNarrow → NoneIsWithoutSolvedOutage → GreatestVerdictIsTrue → WorstVerdictIsTrue → NoFieldGivesMore → AlignedFieldGivesAsMuch
      → IsRightOutage inputs text → IsTrueOutage inputs text
  true_outage inputs text sound enclosed narrow none verdicts each more aligned right = record {
    report = right;
    greatest = enclosed inputs right.outages right.answer;
    narrow = narrow inputs right.outages right.answer;
    none = none inputs right.outages right.answer;
    verdicts = verdicts inputs right.outages sound right.answer;
    counted = λ item worsts counts own. each inputs item worsts counts sound own;
    directions = λ item out.
        worst_direction exist agree limits more aligned inputs sound (elements_of inputs.case) (stands_after (rows_in inputs.switchings ++ opening item ∷ [])) (limits inputs.case sound) out.solvable.earthed;
  }

  pub true_certify : (inputs : Inputs UniformField) (text : List ℕ) → IsSound inputs.case → RightCertificatesHold → IsMet Solved (steps_of inputs) → IsRightCertify inputs text → IsTrueCertify inputs text
  true_certify inputs text sound holds met right = record {
    report = right;
    holds = holds inputs text sound right;
    solved = one_solution exist agree limits inputs.case sound (rows_in inputs.switchings) (solvable_once inputs met).earthed (uniform_volts inputs.case inputs.question.north inputs.question.east);
  }

  pub true_recheck : (inputs : Inputs (Unit {0})) (text : List ℕ) → IsSound inputs.case → AcceptedIntervalsHold → BoundNetworksAreEarthed → (bytes : List ℕ) → IsRightRecheck inputs bytes text → IsTrueRecheck inputs bytes text
  true_recheck inputs text sound holds bound bytes right = record {
    report = right;
    holds = holds inputs bytes text sound right;
    solved = one_solution exist agree limits inputs.case sound (rows_in inputs.switchings)
        (bound (elements_of inputs.case) (stands_after (rows_in inputs.switchings)) (entry_of right.certificate) (limits inputs.case sound) right.accepted.passes.vector)
        (certificate_volts inputs.case right.certificate);
  }
