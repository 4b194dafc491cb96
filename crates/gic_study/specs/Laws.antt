-- What holds of what is asked for, of how a call ended and of right texts. The headline cites `need_of`, `case_asked`, `steps_asked`, `AcceptsCertificate` and `Finds`, and no other.
use Rattle.std.specs.Prelude.{◌≡◌, ◌≢◌, ℕ, List, Some, Ok, Err, ◌⊎◌, ⊤}
use Rattle.std.specs.Io.KnownBytes.{Keeps}
use Rattle.gic_base.specs.Causes.{Rose}
use Rattle.gic_files.specs.Files.{Files}
use Rattle.gic_case.specs.Lists.{Lists}
use Rattle.gic_case.specs.Sound.{IsSound}
use Rattle.gic_case_reader.specs.declared.refusal.CaseRefusal.{CaseRefusal}
use Rattle.gic_cert.specs.Written.{Certificate}
use Rattle.gic_certify.specs.RightCertify.{IsRightCertify}
use Rattle.gic_model.specs.Sums.{Placed}
use Rattle.gic_recheck.specs.Accepted.{IsAccepted}
use Rattle.gic_recheck.specs.declared.fault.CertificateRefusal.{CertificateRefusal}
use Rattle.gic_storm.specs.declared.refusal.StormRefusal.{StormRefusal}
use Rattle.gic_switch.specs.declared.refusal.SwitchRefusal.{SwitchRefusal}
use Rattle.gic_words.specs.Requests.{request_of}
use Rattle.gic_words.specs.declared.fault.Usage.{Usage as UsageFault}
use Rattle.gic_words.specs.declared.mode.Mode.{Mode}
use Rattle.gic_words.specs.declared.mode.Mode.TheVariants as mode
use Rattle.gic_ask.specs.Asks.{CouldNotRead}
use Rattle.gic_ask.specs.Held.{held_for}
use Rattle.gic_ask.specs.Outcome.{Outcome, Refuses, Lacks, Accepts, outcome}
use Rattle.gic_ask.specs.declared.fault.File.{File}
use Rattle.gic_ask.specs.declared.fault.InputFault.TheVariants.{Refused, CannotRead, Memory as NoMemory}
use Rattle.gic_ask.specs.declared.fault.InputRefusal.{InputRefusal}
use Rattle.gic_ask.specs.declared.fault.InputRefusal.TheVariants.{Usage, TooLong, Case, UnknownTransformer, Storm, Switch}
use Rattle.gic_ask.specs.declared.request.Asked.{Asked}
use Rattle.gic_ask.specs.declared.request.Asked.TheVariants.{Network, Study, Make, Recheck, Series, Robust}
use Rattle.gic_course.specs.Steps.{IsStepOf}
use Rattle.gic_stand.specs.Needs.{Need, IsMet, IsUnmet}
use Rattle.gic_stand.specs.Standing.{standing_of}
use Rattle.gic_criteria.specs.declared.asked.UniformField.{UniformField}
use Rattle.gic_inputs.specs.declared.inputs.Inputs.{Inputs}
use Rattle.gic_stand.specs.declared.fault.NetworkRefusal.{NetworkRefusal}
use Rattle.gic_stand.specs.declared.fault.NetworkRefusal.TheVariants.{Unearthed, Unresolved}
use Rattle.gic_stand.specs.declared.fault.ReportFault.TheVariants as report
use Rattle.gic_study.specs.Answers.{Call, AsksFor, Unasked, Served, CallEnds}
use Rattle.gic_study.specs.Faults.{status_of_fault}
use Rattle.gic_study.specs.Modes.{Plans, meaning_of, IsRightText, RefusesCertificate}
use Rattle.gic_study.specs.declared.fault.Fault.TheVariants.{Input, Report, Certificate as CertificateFault, Memory}
use Rattle.gic_study.specs.declared.fault.Wanting.{Wanting}

-- ---- of what is asked for

-- its mode
abbrev pub mode_asked : Asked → Mode
mode_asked (Network m a) = mode.Network m
mode_asked (Study asked) = mode.Study
mode_asked (Make r) = mode.Make
mode_asked (Recheck asked) = mode.Recheck
mode_asked (Series asked) = mode.Series
mode_asked (Robust inputs) = mode.Robust

abbrev pub need_of : Asked → Need
need_of asked = (meaning_of asked).need

abbrev pub case_asked : Asked → Lists
case_asked asked = (meaning_of asked).case

abbrev pub steps_asked : Asked → List (List Placed)
steps_asked asked = (meaning_of asked).steps

-- the certificate that is asked to be checked is accepted, where one is
abbrev pub AcceptsCertificate : Asked → Type 0
AcceptsCertificate (Recheck asked) = (c : Certificate) × IsAccepted asked.inputs.case (standing_of asked.inputs.case asked.inputs.switchings) asked.certificate c
AcceptsCertificate _ = ⊤

-- its case is sound
abbrev pub AskedCasesAreSound : Type 0
AskedCasesAreSound = (call : Call) (asked : Asked) → AsksFor call (Ok asked) → IsSound (case_asked asked)

-- the storm that is asked about has a step, where one is
abbrev pub StormHasStep : Asked → Type 0
StormHasStep (Study asked) = IsStepOf asked.inputs 1
StormHasStep (Series asked) = IsStepOf asked.inputs 1
StormHasStep _ = ⊤

-- its storm has a step
abbrev pub AskedStormsHaveSteps : Type 0
AskedStormsHaveSteps = (call : Call) (asked : Asked) → AsksFor call (Ok asked) → StormHasStep asked

-- ---- of how a call ended over files that the library tells

-- no fetch of a file that the words name failed in the call, and this is what the words and the files ask for
pub record Finds (call : Call) (found : Outcome Asked) : Type 0 where
  pub files : Files
  pub told : call.files ≡ Some files
  pub read : (file : File) → ¬ CouldNotRead call.words file call.before.fetches.failures call.now.fetches.failures
  pub found_is : outcome call.words (held_for files (request_of call.words)) ≡ found

-- a refusal by the words and the files is answered, except out of memory
abbrev pub RefusalsAreAnswered : Type 0
RefusalsAreAnswered = (call : Call) (status : ℕ) → CallEnds call status → (refusal : InputRefusal) → Finds call (Refuses refusal) →
    (status ≡ status_of_fault (Input (Refused refusal))) ⊎ (status ≡ 11)

-- a file that is named and isn't there, though no fetch of it failed, is told as out of memory
abbrev pub LackedFilesAreOutOfMemory : Type 0
LackedFilesAreOutOfMemory = (call : Call) (status : ℕ) → CallEnds call status → (file : File) → Finds call (Lacks file) → status ≡ 11

-- a refusal of the network of what is accepted is answered, except out of memory
abbrev pub UnmetNeedsAreAnswered : Type 0
UnmetNeedsAreAnswered = (call : Call) (status : ℕ) → CallEnds call status → (asked : Asked) → Finds call (Accepts asked) →
    (refusal : NetworkRefusal) → IsUnmet (need_of asked) (case_asked asked) (steps_asked asked) refusal →
    (status ≡ status_of_fault (Report (report.Refused refusal))) ⊎ (status ≡ 11)

-- a refusal of the certificate that is asked to be checked is answered, except out of memory
abbrev pub RefusedCertificatesAreAnswered : Type 0
RefusedCertificatesAreAnswered = (call : Call) (status : ℕ) → CallEnds call status → (asked : Asked) → Finds call (Accepts asked) →
    (refusal : CertificateRefusal) → RefusesCertificate asked refusal → (status ≡ 13) ⊎ (status ≡ 11)

-- what is accepted is reported where its need is met, a certificate that it is given is accepted too, and no write failed, except out of memory
abbrev pub AcceptedIsReported : Type 0
AcceptedIsReported = (call : Call) (status : ℕ) → CallEnds call status → (asked : Asked) → Finds call (Accepts asked) →
    IsMet (need_of asked) (steps_asked asked) → AcceptsCertificate asked → ¬ Rose call.before.out.faults call.now.out.faults →
    (status ≡ 0) ⊎ (status ≡ 11)

-- ---- of each status

-- what each status says
pub record StatusSays (call : Call) (status : ℕ) : Type 0 where
  pub done : status ≡ 0 → Served call (Ok tt)
  pub usage : status ≡ 2 → (u : UsageFault) × Unasked call (Refused (Usage u))
  pub unread : status ≡ 3 → (file : File) × Unasked call (CannotRead file)
  pub unwritten : status ≡ 4 → Served call (Err (Report report.CannotWrite)) × Rose call.before.out.faults call.now.out.faults
  pub case_refused : status ≡ 5 → (e : CaseRefusal) × Unasked call (Refused (Case e))
  pub storm_refused : status ≡ 6 → (e : StormRefusal) × Unasked call (Refused (Storm e))
  pub switch_refused : status ≡ 7 → (e : SwitchRefusal) × Unasked call (Refused (Switch e))
  pub unearthed : status ≡ 8 → (step : ℕ) × ((node : List ℕ) × Served call (Err (Report (report.Refused (Unearthed step node)))))
  pub unresolved : status ≡ 9 → (step : ℕ) × ((node : List ℕ) × Served call (Err (Report (report.Refused (Unresolved step node)))))
  pub too_long : status ≡ 10 → (file : File) × Unasked call (Refused (TooLong file))
  pub transformer_unknown : status ≡ 12 → Unasked call (Refused UnknownTransformer)
  pub certificate_refused : status ≡ 13 → (e : CertificateRefusal) × Served call (Err (CertificateFault e))
  pub memory : status ≡ 11 → Unasked call NoMemory ⊎ ((wanting : Wanting) × Served call (Err (Memory wanting)))
  pub nothing : status ≢ 0 → status ≢ 4 → Keeps call.before.out.bytes call.now.out.bytes

abbrev pub StatusesSay : Type 0
StatusesSay = (call : Call) (status : ℕ) → CallEnds call status → StatusSays call status

-- ---- of right texts

-- a right text tells its mode, whatever it is given and whatever monitors plan
abbrev pub TextsTellModes : Type 0
TextsTellModes = (plans others : Plans) (asked other : Asked) (text : List ℕ) →
    IsRightText plans asked text → IsRightText others other text → mode_asked asked ≡ mode_asked other

-- what is a right text of `certify` is accepted by `recheck`, over the same case and the same switchings
abbrev pub CertifiedIsAccepted : Type 0
CertifiedIsAccepted = (inputs : Inputs UniformField) (other : Inputs (Unit {0})) (text : List ℕ) → IsSound inputs.case → other.case ≡ inputs.case → other.switchings ≡ inputs.switchings →
    IsRightCertify inputs text → AcceptsCertificate (Recheck (record { inputs = other; certificate = text }))
