-- What follows from how a call ended.
use Rattle.std.proofs.Common.{◌≡◌, ◌⊎◌, inl, inr, Option, Result, Ok, Err, refl, sym, ap, subst, ◌∙◌, arith}
use Rattle.gic_base.specs.Causes.{Rose}
use Rattle.gic_files.specs.Files.{Files}
use Rattle.gic_ask.specs.Asks.{Asks, IsAnswer}
use Rattle.gic_ask.specs.Held.{AnswersOfFiles}
use Rattle.gic_ask.specs.Outcome.{Outcome, Refuses, Lacks, Accepts}
use Rattle.gic_ask.specs.declared.fault.File.{File}
use Rattle.gic_ask.specs.declared.fault.InputFault.{InputFault}
use Rattle.gic_ask.specs.declared.fault.InputFault.TheVariants as input
use Rattle.gic_ask.specs.declared.fault.InputRefusal.{InputRefusal}
use Rattle.gic_ask.specs.declared.request.Asked.{Asked}
use Rattle.gic_recheck.specs.Determines.{AcceptedIsNotRefused}
use Rattle.gic_recheck.specs.declared.fault.CertificateRefusal.{CertificateRefusal}
use Rattle.gic_stand.specs.Needs.{IsMet, IsUnmet}
use Rattle.gic_stand.specs.declared.fault.NetworkRefusal.{NetworkRefusal}
use Rattle.gic_stand.specs.declared.fault.ReportFault.TheVariants as report
use Rattle.gic_study.specs.Answers.{Call, AsksFor, Unasked, Served, Explains, status_of}
use Rattle.gic_study.specs.Concluding.{Answer}
use Rattle.gic_study.specs.Faults.{status_of_fault}
use Rattle.gic_study.specs.Modes.{RefusesCertificate}
use Rattle.gic_study.specs.Laws.{need_of, case_asked, steps_asked, AcceptsCertificate, Finds, RefusalsAreAnswered, LackedFilesAreOutOfMemory, AcceptedIsReported, UnmetNeedsAreAnswered, RefusedCertificatesAreAnswered}
use Rattle.gic_study.specs.declared.fault.Fault.TheVariants.{Input, Report, Certificate, Memory}
use Rattle.gic_study.proofs.MetNeeds.{unmet_or_met, same_kind}
use Rattle.gic_study.proofs.EachMode.{refused_or_accepted, right_accepts, refused_needs_nothing}

-- ---- the answer is that of what the words and the files ask for

found : AnswersOfFiles → (call : Call) (answer : Result Asked InputFault) (o : Outcome Asked) → AsksFor call answer → Finds call o → IsAnswer o answer
found law call answer o asks finds =
    subst (λ (x : Outcome Asked). IsAnswer x answer) finds.found_is
    (law call.words finds.files call.before.fetches call.now.fetches answer
    (subst (λ (files : Option Files). Asks call.words files call.before.fetches call.now.fetches answer) finds.told asks) finds.read)

asked_is : AnswersOfFiles → (call : Call) (answer : Answer) (o : Outcome Asked) (e : Served call answer) → Finds call o → o ≡ Accepts e.asked
asked_is law call answer o e finds = found law call (Ok e.asked) o e.asks finds

fault_is : AnswersOfFiles → (call : Call) (fault : InputFault) (o : Outcome Asked) → Unasked call fault → Finds call o → IsAnswer o (Err fault)
fault_is law call fault o e finds = found law call (Err fault) o e.asks finds

same_accepted : (a b : Asked) → Accepts a ≡ Accepts b → a ≡ b
same_accepted a b e = grind (arith, e)

-- what is accepted is what was served
same_asked : AnswersOfFiles → (call : Call) (answer : Answer) (asked : Asked) (e : Served call answer) → Finds call (Accepts asked) → e.asked ≡ asked
same_asked law call answer asked e finds = sym (same_accepted asked e.asked (asked_is law call answer (Accepts asked) e finds))

same_refusal : (r other : InputRefusal) → ◌≡◌ {A = Outcome Asked} (Refuses r) (Refuses other) → r ≡ other
same_refusal r other e = grind (arith, e)

-- what is refused or lacked was not served
refused_not_served : AnswersOfFiles → (call : Call) (answer : Answer) (refusal : InputRefusal) → Served call answer → ¬ Finds call (Refuses refusal)
refused_not_served law call answer refusal e finds = grind (arith, asked_is law call answer (Refuses refusal) e finds)

lacked_not_served : AnswersOfFiles → (call : Call) (answer : Answer) (file : File) → Served call answer → ¬ Finds call (Lacks file)
lacked_not_served law call answer file e finds = grind (arith, asked_is law call answer (Lacks file) e finds)

-- ---- refusals by the words and the files

refused_by : (law : AnswersOfFiles) (call : Call) (answer : Answer) → Explains call answer → (refusal : InputRefusal) → Finds call (Refuses refusal)
    → (status_of answer ≡ status_of_fault (Input (input.Refused refusal))) ⊎ (status_of answer ≡ 11)
refused_by law call (Ok done) e refusal finds = absurd (refused_not_served law call (Ok done) refusal e finds)
refused_by law call (Err (Report fault)) e refusal finds = absurd (refused_not_served law call (Err (Report fault)) refusal e finds)
refused_by law call (Err (Certificate r)) e refusal finds = absurd (refused_not_served law call (Err (Certificate r)) refusal e finds)
refused_by law call (Err (Memory wanting)) e refusal finds = absurd (refused_not_served law call (Err (Memory wanting)) refusal e finds)
refused_by law call (Err (Input (input.Refused r))) e refusal finds =
    inl (ap (λ (x : InputRefusal). status_of_fault (Input (input.Refused x))) (sym (same_refusal refusal r (fault_is law call (input.Refused r) (Refuses refusal) e finds))))
refused_by law call (Err (Input (input.CannotRead file))) e refusal finds = absurd (grind (arith, fault_is law call (input.CannotRead file) (Refuses refusal) e finds))
refused_by law call (Err (Input input.Memory)) e refusal finds = inr refl

pub refusals_are_answered : AnswersOfFiles → RefusalsAreAnswered
refusals_are_answered law call status e refusal finds =
    subst (λ n. (n ≡ status_of_fault (Input (input.Refused refusal))) ⊎ (n ≡ 11)) (sym e.status_is) (refused_by law call e.answer e.explained refusal finds)

lacked_by : (law : AnswersOfFiles) (call : Call) (answer : Answer) → Explains call answer → (file : File) → Finds call (Lacks file) → status_of answer ≡ 11
lacked_by law call (Ok done) e file finds = absurd (lacked_not_served law call (Ok done) file e finds)
lacked_by law call (Err (Report fault)) e file finds = absurd (lacked_not_served law call (Err (Report fault)) file e finds)
lacked_by law call (Err (Certificate r)) e file finds = absurd (lacked_not_served law call (Err (Certificate r)) file e finds)
lacked_by law call (Err (Memory wanting)) e file finds = absurd (lacked_not_served law call (Err (Memory wanting)) file e finds)
lacked_by law call (Err (Input (input.Refused r))) e file finds = absurd (grind (arith, fault_is law call (input.Refused r) (Lacks file) e finds))
lacked_by law call (Err (Input (input.CannotRead other))) e file finds = absurd (finds.read other (e.asks.failed other refl))
lacked_by law call (Err (Input input.Memory)) e file finds = refl

pub lacked_files_are_out_of_memory : AnswersOfFiles → LackedFilesAreOutOfMemory
lacked_files_are_out_of_memory law call status e file finds = e.status_is ∙ lacked_by law call e.answer e.explained file finds

-- ---- what is accepted is not refused

accepted_not_refused : AnswersOfFiles → (call : Call) (r : InputRefusal) (asked : Asked) → Unasked call (input.Refused r) → ¬ Finds call (Accepts asked)
accepted_not_refused law call r asked e finds = grind (arith, fault_is law call (input.Refused r) (Accepts asked) e finds)

accepted_not_lacked : AnswersOfFiles → (call : Call) (file : File) (asked : Asked) → Unasked call (input.CannotRead file) → ¬ Finds call (Accepts asked)
accepted_not_lacked law call file asked e finds = grind (arith, fault_is law call (input.CannotRead file) (Accepts asked) e finds)

-- the need of what is asked is met
met_by : (a asked : Asked) → a ≡ asked → IsMet (need_of asked) (steps_asked asked)
    → IsMet (need_of a) (steps_asked a)
met_by a asked e met = subst (λ (x : Asked). IsMet (need_of x) (steps_asked x)) (sym e) met

reported_by : (law : AnswersOfFiles) (never : AcceptedIsNotRefused) (call : Call) (answer : Answer) → Explains call answer
    → (asked : Asked) → Finds call (Accepts asked)
    → IsMet (need_of asked) (steps_asked asked) → AcceptsCertificate asked → ¬ Rose call.before.out.faults call.now.out.faults
    → (status_of answer ≡ 0) ⊎ (status_of answer ≡ 11)
reported_by law never call (Ok done) e asked finds met accepted stood = inl refl
reported_by law never call (Err (Report report.CannotWrite)) e asked finds met accepted stood = absurd (stood e.concludes.cause)
reported_by law never call (Err (Memory wanting)) e asked finds met accepted stood = inr refl
reported_by law never call (Err (Report (report.Refused r))) e asked finds met accepted stood =
    let same : e.asked ≡ asked = same_asked law call (Err (Report (report.Refused r))) asked e finds in
    absurd (unmet_or_met (need_of e.asked) (case_asked e.asked) (steps_asked e.asked) r e.concludes.0 (met_by e.asked asked same met))
reported_by law never call (Err (Certificate r)) e asked finds met accepted stood =
    let same : e.asked ≡ asked = same_asked law call (Err (Certificate r)) asked e finds in
    absurd (refused_or_accepted never asked r (subst (λ (x : Asked). RefusesCertificate x r) same e.concludes.0) accepted)
reported_by law never call (Err (Input (input.Refused r))) e asked finds met accepted stood = absurd (accepted_not_refused law call r asked e finds)
reported_by law never call (Err (Input (input.CannotRead file))) e asked finds met accepted stood = absurd (accepted_not_lacked law call file asked e finds)
reported_by law never call (Err (Input input.Memory)) e asked finds met accepted stood = inr refl

pub accepted_is_reported : AnswersOfFiles → AcceptedIsNotRefused → AcceptedIsReported
accepted_is_reported law never call status e asked finds met accepted stood =
    subst (λ n. (n ≡ 0) ⊎ (n ≡ 11)) (sym e.status_is) (reported_by law never call e.answer e.explained asked finds met accepted stood)

-- ---- a refusal of the network is answered

unmet_by : (a asked : Asked) (refusal : NetworkRefusal) → a ≡ asked → IsUnmet (need_of asked) (case_asked asked) (steps_asked asked) refusal
    → IsUnmet (need_of a) (case_asked a) (steps_asked a) refusal
unmet_by a asked refusal e unmet = subst (λ (x : Asked). IsUnmet (need_of x) (case_asked x) (steps_asked x) refusal) (sym e) unmet

unmet_answered : (law : AnswersOfFiles) (call : Call) (answer : Answer) → Explains call answer
    → (asked : Asked) → Finds call (Accepts asked)
    → (refusal : NetworkRefusal) → IsUnmet (need_of asked) (case_asked asked) (steps_asked asked) refusal
    → (status_of answer ≡ status_of_fault (Report (report.Refused refusal))) ⊎ (status_of answer ≡ 11)
unmet_answered law call (Ok done) e asked finds refusal unmet =
    let same : e.asked ≡ asked = same_asked law call (Ok done) asked e finds in
    absurd (unmet_or_met (need_of e.asked) (case_asked e.asked) (steps_asked e.asked) refusal (unmet_by e.asked asked refusal same unmet) e.concludes.met)
unmet_answered law call (Err (Report report.CannotWrite)) e asked finds refusal unmet =
    let same : e.asked ≡ asked = same_asked law call (Err (Report report.CannotWrite)) asked e finds in
    absurd (unmet_or_met (need_of e.asked) (case_asked e.asked) (steps_asked e.asked) refusal (unmet_by e.asked asked refusal same unmet) e.concludes.met)
unmet_answered law call (Err (Memory wanting)) e asked finds refusal unmet = inr refl
unmet_answered law call (Err (Report (report.Refused r))) e asked finds refusal unmet =
    let same : e.asked ≡ asked = same_asked law call (Err (Report (report.Refused r))) asked e finds in
    inl (same_kind (need_of e.asked) (case_asked e.asked) (steps_asked e.asked) r refusal e.concludes.0 (unmet_by e.asked asked refusal same unmet))
unmet_answered law call (Err (Certificate r)) e asked finds refusal unmet =
    let same : e.asked ≡ asked = same_asked law call (Err (Certificate r)) asked e finds in
    absurd (refused_needs_nothing asked r refusal (subst (λ (x : Asked). RefusesCertificate x r) same e.concludes.0) unmet)
unmet_answered law call (Err (Input (input.Refused r))) e asked finds refusal unmet = absurd (accepted_not_refused law call r asked e finds)
unmet_answered law call (Err (Input (input.CannotRead file))) e asked finds refusal unmet = absurd (accepted_not_lacked law call file asked e finds)
unmet_answered law call (Err (Input input.Memory)) e asked finds refusal unmet = inr refl

pub unmet_needs_are_answered : AnswersOfFiles → UnmetNeedsAreAnswered
unmet_needs_are_answered law call status e asked finds refusal unmet =
    subst (λ n. (n ≡ status_of_fault (Report (report.Refused refusal))) ⊎ (n ≡ 11)) (sym e.status_is)
    (unmet_answered law call e.answer e.explained asked finds refusal unmet)

-- ---- the refusal of a certificate is answered

certificate_answered : (law : AnswersOfFiles) (never : AcceptedIsNotRefused) (call : Call) (answer : Answer) → Explains call answer
    → (asked : Asked) → Finds call (Accepts asked)
    → (refusal : CertificateRefusal) → RefusesCertificate asked refusal
    → (status_of answer ≡ 13) ⊎ (status_of answer ≡ 11)
certificate_answered law never call (Ok done) e asked finds refusal refused =
    let same : e.asked ≡ asked = same_asked law call (Ok done) asked e finds in
    absurd (refused_or_accepted never asked refusal refused (subst AcceptsCertificate same (right_accepts call.plans e.asked e.concludes.text e.concludes.right)))
certificate_answered law never call (Err (Report report.CannotWrite)) e asked finds refusal refused =
    let same : e.asked ≡ asked = same_asked law call (Err (Report report.CannotWrite)) asked e finds in
    absurd (refused_or_accepted never asked refusal refused (subst AcceptsCertificate same (right_accepts call.plans e.asked e.concludes.text e.concludes.right)))
certificate_answered law never call (Err (Memory wanting)) e asked finds refusal refused = inr refl
certificate_answered law never call (Err (Report (report.Refused r))) e asked finds refusal refused =
    let same : asked ≡ e.asked = sym (same_asked law call (Err (Report (report.Refused r))) asked e finds) in
    absurd (refused_needs_nothing e.asked refusal r (subst (λ (x : Asked). RefusesCertificate x refusal) same refused) e.concludes.0)
certificate_answered law never call (Err (Certificate r)) e asked finds refusal refused = inl refl
certificate_answered law never call (Err (Input (input.Refused r))) e asked finds refusal refused = absurd (accepted_not_refused law call r asked e finds)
certificate_answered law never call (Err (Input (input.CannotRead file))) e asked finds refusal refused = absurd (accepted_not_lacked law call file asked e finds)
certificate_answered law never call (Err (Input input.Memory)) e asked finds refusal refused = inr refl

pub refused_certificates_are_answered : AnswersOfFiles → AcceptedIsNotRefused → RefusedCertificatesAreAnswered
refused_certificates_are_answered law never call status e asked finds refusal refused =
    subst (λ n. (n ≡ 13) ⊎ (n ≡ 11)) (sym e.status_is) (certificate_answered law never call e.answer e.explained asked finds refusal refused)
