-- The headline: what a call says to its user, whatever its words, its files and its streams.
use Rattle.std.specs.Prelude.{◌≡◌, ℕ, List, [], ◌∷◌, Ok, Err, Contains, ◌⊎◌}
use Rattle.std.specs.Io.KnownBytes.{Appends, Keeps}
use Rattle.gic_base.specs.Causes.{Rose}
use Rattle.gic_base.specs.Pieces.{AppendsPart}
use Rattle.gic_case_reader.specs.declared.refusal.CaseRefusal.{CaseRefusal}
use Rattle.gic_storm.specs.declared.refusal.StormRefusal.{StormRefusal}
use Rattle.gic_switch.specs.declared.refusal.SwitchRefusal.{SwitchRefusal}
use Rattle.gic_words.specs.declared.fault.Usage.{Usage as UsageFault}
use Rattle.gic_ask.specs.Outcome.{Accepts}
use Rattle.gic_ask.specs.declared.fault.File.{File}
use Rattle.gic_ask.specs.declared.fault.InputFault.{InputFault}
use Rattle.gic_ask.specs.declared.fault.InputFault.TheVariants.{Refused, CannotRead, Memory as NoMemory}
use Rattle.gic_ask.specs.declared.fault.InputRefusal.TheVariants.{Usage, TooLong, Case as CaseRefused, UnknownTransformer, Storm as StormRefused, Switch as SwitchRefused}
use Rattle.gic_ask.specs.declared.request.Asked.{Asked}
use Rattle.gic_stand.specs.Needs.{IsMet, IsUnmet}
use Rattle.gic_stand.specs.declared.fault.NetworkRefusal.{NetworkRefusal}
use Rattle.gic_stand.specs.declared.fault.NetworkRefusal.TheVariants.{Unearthed, Unresolved}
use Rattle.gic_stand.specs.declared.fault.ReportFault.TheVariants as reports
use Rattle.gic_recheck.specs.declared.fault.CertificateRefusal.{CertificateRefusal}
use Rattle.gic_study.specs.Answers.{Call, AsksFor, TellsLine}
use Rattle.gic_study.specs.Concluding.{MayLackMemory}
use Rattle.gic_study.specs.Faults.{line_of_fault}
use Rattle.gic_study.specs.Laws.{need_of, case_asked, steps_asked, AcceptsCertificate, Finds}
use Rattle.gic_study.specs.Modes.{RefusesCertificate}
use Rattle.gic_study.specs.declared.fault.Fault.{Fault}
use Rattle.gic_study.specs.declared.fault.Fault.TheVariants.{Input, Report, Certificate, Memory}
use Rattle.gic_study.specs.declared.fault.Wanting.{Wanting}
use Rattle.gic_headline.specs.TrueReports.{IsTrueReport}

-- what the words and the files ask for, over a network that meets the need of its mode at each step, and a text that is a true report of it
pub record TrueReport (call : Call) : Type 0 where
  pub asked : Asked
  pub asks : AsksFor call (Ok asked)
  pub met : IsMet (need_of asked) (steps_asked asked)
  pub text : List ℕ
  pub is_true : IsTrueReport call.plans asked text

-- the whole text of a true report was written, and nothing else
pub record WritesReport (call : Call) : Type 0 where
  pub report : TrueReport call
  pub whole : Appends call.before.out.bytes call.now.out.bytes report.text
  pub silent : Keeps call.before.err.bytes call.now.err.bytes

-- a prefix of the text of a true report was written, since a write failed
pub record WritesPart (call : Call) : Type 0 where
  pub report : TrueReport call
  pub part : AppendsPart call.before.out.bytes call.now.out.bytes report.text
  pub cause : Rose call.before.out.faults call.now.out.faults
  pub told : TellsLine call.before.err call.now.err (line_of_fault (Report reports.CannotWrite))

-- nothing was written but the line of this fault to the error sink, or a prefix of it where a write failed
pub record TellsAlone (call : Call) (fault : Fault) : Type 0 where
  pub nothing : Keeps call.before.out.bytes call.now.out.bytes
  pub told : TellsLine call.before.err call.now.err (line_of_fault fault)

-- the words and the files ask for no report, for this cause
pub record EndsUnasked (call : Call) (fault : InputFault) : Type 0 where
  pub cause : AsksFor call (Err fault)
  pub told : TellsAlone call (Input fault)

-- what the words and the files ask for isn't reported, for this cause
pub record EndsUnreported (call : Call) (fault : Fault) (IsCause : Asked → Type 0) : Type 0 where
  pub asked : Asked
  pub asks : AsksFor call (Ok asked)
  pub cause : IsCause asked
  pub told : TellsAlone call fault

-- what they ask for isn't reported, since at some step, the first such, its network doesn't meet the need of its mode, for this reason
abbrev pub EndsUnmet : Call → NetworkRefusal → Type 0
EndsUnmet call refusal = EndsUnreported call (Report (reports.Refused refusal)) (λ asked. IsUnmet (need_of asked) (case_asked asked) (steps_asked asked) refusal)

-- nothing stands in the way of a report: the library tells its files, as that of the system does not, and no fetch that the words name failed; words and files are accepted; the network meets the need at each step; the certificate that is to be checked, if any, is accepted; and no write failed
pub record IsServable (call : Call) : Type 0 where
  pub asked : Asked
  pub accepted : Finds call (Accepts asked)
  pub met : IsMet (need_of asked) (steps_asked asked)
  pub certificate : AcceptsCertificate asked
  pub stood : ¬ Rose call.before.out.faults call.now.out.faults

-- for all words, files and streams. Status 0: the whole text of a true report was written: each of its intervals holds the exact value, whatever solves each step's standing network, and what its verdicts and its monitors say is true of the exact currents; where it speaks of solutions, one exists, and any two agree. Any other status: its cause, but for 11, since memory may be wanting at any time: a call that always answered 11 is not refused. Where nothing stands in the way of a report the status is 0, or 11. Of a library and of sinks that don't tell their bytes, as those of the system, less is said: the body is the same for these and for those that tell
pub record Headline (call : Call) (status : ℕ) : Type 0 where
  pub one_of_these : Contains (0 ∷ 2 ∷ 3 ∷ 4 ∷ 5 ∷ 6 ∷ 7 ∷ 8 ∷ 9 ∷ 10 ∷ 11 ∷ 12 ∷ 13 ∷ []) status
  pub reported : status ≡ 0 → WritesReport call
  pub comes : IsServable call → (status ≡ 0) ⊎ (status ≡ 11)
  pub unwritten : status ≡ 4 → WritesPart call
  pub usage : status ≡ 2 → (u : UsageFault) × EndsUnasked call (Refused (Usage u))
  pub unread : status ≡ 3 → (file : File) × EndsUnasked call (CannotRead file)
  pub case_refused : status ≡ 5 → (e : CaseRefusal) × EndsUnasked call (Refused (CaseRefused e))
  pub storm_refused : status ≡ 6 → (e : StormRefusal) × EndsUnasked call (Refused (StormRefused e))
  pub switch_refused : status ≡ 7 → (e : SwitchRefusal) × EndsUnasked call (Refused (SwitchRefused e))
  pub unearthed : status ≡ 8 → (step : ℕ) × ((node : List ℕ) × EndsUnmet call (Unearthed step node))
  pub unresolved : status ≡ 9 → (step : ℕ) × ((node : List ℕ) × EndsUnmet call (Unresolved step node))
  pub too_long : status ≡ 10 → (file : File) × EndsUnasked call (Refused (TooLong file))
  pub no_memory : status ≡ 11 → EndsUnasked call NoMemory ⊎ ((wanting : Wanting) × EndsUnreported call (Memory wanting) (MayLackMemory call.plans wanting))
  pub transformer_unknown : status ≡ 12 → EndsUnasked call (Refused UnknownTransformer)
  pub certificate_refused : status ≡ 13 → (e : CertificateRefusal) × EndsUnreported call (Certificate e) (λ asked. RefusesCertificate asked e)
