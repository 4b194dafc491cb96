-- A right report of what is asked for is a true one.
use Rattle.std.proofs.Common.{ℕ, List, [], ◌∷◌}
use Rattle.gic_case.specs.Sound.{IsSound}
use Rattle.gic_ask.specs.declared.request.Asked.{Asked}
use Rattle.gic_ask.specs.declared.request.Asked.TheVariants.{Network, Study, Make, Recheck, Series, Robust}
use Rattle.gic_words.specs.declared.mode.NetworkMode.{NetworkMode}
use Rattle.gic_words.specs.declared.mode.NetworkMode.TheVariants as mode
use Rattle.gic_ask.specs.Network.{inputs_over}
use Rattle.gic_ask.specs.declared.request.NetworkAsked.{NetworkAsked}
use Rattle.gic_exists.specs.Exists.{EarthedNetworksAreSolved, SolutionsAgree}
use Rattle.gic_claims.specs.Claims.{BoundNetworksAreEarthed}
use Rattle.gic_winding.specs.Degrees.{ElementsAreWithinLimits}
use Rattle.gic_stand.specs.Needs.{IsMet}
use Rattle.gic_stand.specs.Standing.{standing_of}
use Rattle.gic_field.specs.Follows.{AbsolutesAreRight, FieldVerdictsAreTrue}
use Rattle.gic_screen_mode.specs.Follows.{ScreenVerdictsAreTrue}
use Rattle.gic_robust.specs.Follows.{RobustVerdictsAreTrue}
use Rattle.gic_outage.specs.Follows.{GreatestWorstIsEnclosed, GreatestWorstIsNarrow, NoneIsWithoutSolvedOutage, GreatestVerdictIsTrue, WorstVerdictIsTrue}
use Rattle.gic_study_mode.specs.Follows.{PeaksAreNarrow, PeaksEnclose, PeakVerdictsAreTrue}
use Rattle.gic_certify.specs.Follows.{RightCertificatesHold}
use Rattle.gic_recheck.specs.Follows.{AcceptedIntervalsHold}
use Rattle.gic_make.specs.Accepted.{MadeCasesAreSound, MadeNodesAreEarthed, MadeCasesAreNearEarth}
use Rattle.gic_laws.specs.Dwells.{DwellsAreTrue}
use Rattle.gic_laws.specs.Earthings.{EarthingsAreTrue}
use Rattle.gic_laws.specs.Losses.{LossesAreTrue}
use Rattle.gic_laws.specs.Orientation.{NoFieldGivesMore, AlignedFieldGivesAsMuch}
use Rattle.gic_study.specs.Laws.{need_of, case_asked, steps_asked, StormHasStep}
use Rattle.gic_study.specs.Modes.{Plans, IsRightText, network_meaning}
use Rattle.gic_headline.specs.TrueReports.{IsTrueOver, IsTrueReport}
use Rattle.gic_headline.proofs.MadeAsked.{IsMadeInRange}
use Rattle.gic_headline.proofs.TrueOfGrounds.{GroundTheorems, true_robust}
use Rattle.gic_headline.proofs.TrueOfNetworks.{true_check, true_field, true_screen, true_outage, true_certify, true_recheck}
use Rattle.gic_headline.proofs.TrueOfStorms.{true_study, true_series, true_make}

-- the theorems that the headline joins
pub record Theorems : Type 0 where
  pub exist : EarthedNetworksAreSolved
  pub agree : SolutionsAgree
  pub limits : ElementsAreWithinLimits
  pub bound : BoundNetworksAreEarthed
  pub certificates : RightCertificatesHold
  pub accepted : AcceptedIntervalsHold
  pub more : NoFieldGivesMore
  pub aligned : AlignedFieldGivesAsMuch
  pub absolutes : AbsolutesAreRight
  pub field_verdicts : FieldVerdictsAreTrue
  pub screen_verdicts : ScreenVerdictsAreTrue
  pub robust_verdicts : RobustVerdictsAreTrue
  pub grounds : GroundTheorems
  pub greatest : GreatestWorstIsEnclosed
  pub greatest_narrow : GreatestWorstIsNarrow
  pub none_solved : NoneIsWithoutSolvedOutage
  pub greatest_verdicts : GreatestVerdictIsTrue
  pub worst_verdicts : WorstVerdictIsTrue
  pub peaks_narrow : PeaksAreNarrow
  pub peaks : PeaksEnclose
  pub peak_verdicts : PeakVerdictsAreTrue
  pub dwells : DwellsAreTrue
  pub earthings : EarthingsAreTrue
  pub losses : LossesAreTrue
  pub made_sound : MadeCasesAreSound
  pub made_earthed : MadeNodesAreEarthed
  pub made_near : MadeCasesAreNearEarth

-- one row a mode over the network of a case
true_over : Theorems → (m : NetworkMode) (a : NetworkAsked) (text : List ℕ) → IsSound a.case
    → IsMet (network_meaning m).need (standing_of a.case a.switchings ∷ []) → (network_meaning m).IsRight a text → IsTrueOver m a text
true_over law mode.Volts a text sound met right = right
true_over law mode.List a text sound met right = right
true_over law mode.Review a text sound met right = right
true_over law mode.Check a text sound met right = true_check (inputs_over (tt {0}) a) text met right
true_over law mode.Field a text sound met right =
    true_field law.exist law.agree law.limits (inputs_over a.question a) text sound law.absolutes law.field_verdicts met right
true_over law mode.Screen a text sound met right =
    true_screen law.exist law.agree law.limits (inputs_over a.question.criteria a) text sound law.screen_verdicts law.more law.aligned met right
true_over law mode.Certify a text sound met right =
    true_certify law.exist law.agree law.limits (inputs_over a.question.field a) text sound law.certificates met right
true_over law mode.Outage a text sound met right =
    true_outage law.exist law.agree law.limits (inputs_over a.question.criteria a) text sound law.greatest law.greatest_narrow law.none_solved law.greatest_verdicts law.worst_verdicts law.more law.aligned right

-- and one for each other
pub true_report : Theorems → (plans : Plans) (asked : Asked) (text : List ℕ) → IsSound (case_asked asked) → StormHasStep asked → IsMadeInRange asked
    → IsMet (need_of asked) (steps_asked asked) → IsRightText plans asked text → IsTrueReport plans asked text
true_report law plans (Network m a) text sound stepped range met right = true_over law m a text sound met right
true_report law plans (Robust inputs) text sound stepped range met right =
    true_robust law.exist law.agree law.limits law.more law.aligned law.robust_verdicts law.grounds inputs text sound met right
true_report law plans (Study asked) text sound stepped range met right =
    true_study law.exist law.agree law.limits law.peaks_narrow law.peaks law.peak_verdicts law.dwells law.earthings law.losses asked.inputs asked.detail plans text sound stepped met right
true_report law plans (Make r) text sound stepped range met right =
    true_make law.exist law.agree law.limits law.made_sound law.made_earthed law.made_near r.seed r.size text sound range right
true_report law plans (Recheck asked) text sound stepped range met right =
    true_recheck law.exist law.agree law.limits asked.inputs text sound law.accepted law.bound asked.certificate right
true_report law plans (Series asked) text sound stepped range met right =
    true_series law.exist law.agree law.limits asked.inputs asked.transformer text sound met right
