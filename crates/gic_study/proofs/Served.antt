-- What is asked for was served, by the call of its mode.
use Rattle.std.proofs.Common.{◌≡◌, ℕ, ◌<◌, false, List, length, Result, Ok, Err, sym, subst, arith}
use Rattle.std.specs.Prelude.{IfOk, IsErrAnd}
use Rattle.std.specs.Io.KnownBytes.{Keeps}
use Rattle.gic_base.proofs.Parts.{keeps-refl}
use Rattle.gic_stand.specs.Serves.{Shown}
use Rattle.gic_stand.specs.declared.fault.ReportFault.{ReportFault}
use Rattle.gic_stand.specs.declared.fault.ReportFault.TheVariants.{Refused, CannotWrite}
use Rattle.gic_ask.specs.Network.{inputs_over}
use Rattle.gic_ask.specs.declared.request.Asked.{Asked}
use Rattle.gic_ask.specs.declared.request.NetworkAsked.{NetworkAsked}
use Rattle.gic_stand.specs.Needs.{Need}
use Rattle.gic_ask.specs.declared.request.RecheckAsked.{RecheckAsked}
use Rattle.gic_ask.specs.declared.request.StudyAsked.{StudyAsked}
use Rattle.gic_ask.specs.declared.request.Asked.TheVariants.{Network, Study, Make, Recheck, Series, Robust}
use Rattle.gic_words.specs.declared.mode.NetworkMode.{NetworkMode}
use Rattle.gic_inputs.proofs.Answered.{answered}
use Rattle.gic_inputs.specs.declared.inputs.Inputs.{Inputs}
use Rattle.gic_monitor.specs.RosterView.{RosterView}
use Rattle.gic_view.specs.View.{View}
use Rattle.gic_recheck.specs.RightRecheck.{ServesRecheck}
use Rattle.gic_recheck.specs.declared.fault.RecheckFault.{RecheckFault}
use Rattle.gic_recheck.specs.declared.fault.RecheckFault.TheVariants as recheck
use Rattle.gic_study_mode.specs.RightStudy.{IsRightStudy}
use Rattle.gic_study_mode.specs.Roster.{roster_of}
use Rattle.gic_study_mode.specs.ServesStudy.{ServesStudy}
use Rattle.gic_study_mode.specs.declared.fault.StudyFault.{StudyFault}
use Rattle.gic_study_mode.specs.declared.fault.StudyFault.TheVariants as study
use Rattle.gic_study_mode.proofs.RightStudies.{by_plans}
use Rattle.gic_study.specs.Concluding.{Answer, ServesMeaning, MayLackMemory, Concludes}
use Rattle.gic_study.specs.ModeCalls.{ServesMade, ServesNetwork, ServesOver, reported, told, studied, rechecked}
use Rattle.gic_study.specs.ProgramPlans.{is_study}
use Rattle.gic_study.specs.declared.fault.Fault.TheVariants.{Input, Report, Certificate, Memory}
use Rattle.gic_study.specs.declared.fault.Wanting.{Wanting}
use Rattle.gic_study.specs.declared.fault.Wanting.TheVariants.{Workspace, Texts}
use Rattle.gic_study.specs.Modes.{Plans, meaning_of}

-- what is said of a workspace that was made
pub of_made : {W E : Type 0} (made : Result W E) (workspace : W) (Holds : W → Type 0) → made ≡ Ok workspace → IfOk made Holds → Holds workspace
of_made made workspace Holds is holds = subst (λ m. IfOk m Holds) is holds

-- what follows of it
pub on_made : {W E : Type 0} (made : Result W E) (Holds Follows : W → Type 0) → ((workspace : W) → Holds workspace → Follows workspace) → IfOk made Holds → IfOk made Follows
on_made (Ok workspace) Holds Follows follows holds = follows workspace holds
on_made (Err e) Holds Follows follows holds = tt

-- what is asked for ended so
pub of_asked : (plans : Plans) (asked is_asked : Asked) (before now : Shown) (answer : Answer) → asked ≡ is_asked → Concludes plans is_asked before now answer → Concludes plans asked before now answer
of_asked plans asked is_asked before now answer is ended = subst (λ a. Concludes plans a before now answer) (sym is) ended

-- how a call ends that was reported
concludes_reported : (plans : Plans) (asked : Asked) (before now : Shown) (answer : Result (Unit {0}) ReportFault)
    → ServesMeaning (meaning_of asked) plans before now answer → Concludes plans asked before now (reported answer)
concludes_reported plans asked before now (Ok done) served = served
concludes_reported plans asked before now (Err fault) served = served

pub by_report : (plans : Plans) (asked : Asked) (before now : Shown) (answer : Result (Unit {0}) ReportFault) (whole : Answer)
    → ServesMeaning (meaning_of asked) plans before now answer → whole ≡ reported answer → Concludes plans asked before now whole
by_report plans asked before now answer whole served ends = subst (Concludes plans asked before now) (sym ends) (concludes_reported plans asked before now answer served)

-- how a call ends whose workspace may not have been made
by_told : {E : Type 0} (plans : Plans) (asked : Asked) (before now : Shown) (answer : Result (Result (Unit {0}) ReportFault) E) (whole : Answer)
    → ServesMade (meaning_of asked).need (meaning_of asked).case (meaning_of asked).steps ((meaning_of asked).IsRight plans) before now answer → whole ≡ told answer
    → Concludes plans asked before now whole
by_told plans asked before now (Ok answer) whole served ends = by_report plans asked before now answer whole served ends
by_told plans asked before now (Err e) whole served ends =
    subst (Concludes plans asked before now) (sym ends) (tt, subst (λ (s : Shown). Keeps before.bytes s.bytes) (sym served) (keeps-refl before.bytes))

-- what is asked for ended so
pub of_told : {E : Type 0} (plans : Plans) (asked is_asked : Asked) (before now : Shown) (answer : Result (Result (Unit {0}) ReportFault) E) (whole : Answer) → asked ≡ is_asked
    → ((all : Plans) → ServesMade (meaning_of is_asked).need (meaning_of is_asked).case (meaning_of is_asked).steps ((meaning_of is_asked).IsRight all) before now answer)
    → whole ≡ told answer → Concludes plans asked before now whole
of_told plans asked is_asked before now answer whole is served ends =
    of_asked plans asked is_asked before now whole is (by_told plans is_asked before now answer whole (served plans) ends)

-- the report of a mode over the network of a case, by what it is asked of the network
pub of_mode : {Q E : Type 0} (mode is_mode : NetworkMode) (a : NetworkAsked) (question : Q) (need : Need) (IsRight : Inputs Q → List ℕ → Type 0) (before now : Shown)
    (answer : Result (Result (Unit {0}) ReportFault) E) → mode ≡ is_mode → (ServesOver need IsRight (inputs_over question a) before now answer → ServesNetwork is_mode a before now answer)
    → (over : Inputs Q) → over ≡ inputs_over question a → ServesOver need IsRight over before now answer → ServesNetwork mode a before now answer
of_mode {Q = Q} mode is_mode a question need IsRight before now answer is same over over_is served =
    subst (λ (m : NetworkMode). ServesNetwork m a before now answer) (sym is) (same (subst (λ (i : Inputs Q). ServesOver need IsRight i before now answer) over_is served))

-- what is said of a question is said of the inputs that are asked it
pub over_asked : {Q : Type 0} (a : NetworkAsked) (question : Q) (P : Q → Type 0) (over : Inputs Q) → over ≡ inputs_over question a → P question → P over.question
over_asked {Q = Q} a question P over is holds = subst (λ (i : Inputs Q). P i.question) (sym is) holds

-- what is no study ends as it does whatever monitors plan
lacks_alike : (plans others : Plans) (wanting : Wanting) (asked : Asked) → is_study asked ≡ false → MayLackMemory plans wanting asked → MayLackMemory others wanting asked
lacks_alike plans others Workspace asked none lacks = tt
lacks_alike plans others Texts (Study given) none lacks = absurd (grind (arith, none))
lacks_alike plans others Texts (Network m inputs) none lacks = lacks
lacks_alike plans others Texts (Make request) none lacks = lacks
lacks_alike plans others Texts (Recheck given) none lacks = lacks
lacks_alike plans others Texts (Series given) none lacks = lacks
lacks_alike plans others Texts (Robust inputs) none lacks = lacks

serves_alike : (plans others : Plans) (asked : Asked) (before now : Shown) (answer : Result (Unit {0}) ReportFault) → is_study asked ≡ false
    → ServesMeaning (meaning_of asked) plans before now answer → ServesMeaning (meaning_of asked) others before now answer
serves_alike plans others (Study given) before now answer none served = absurd (grind (arith, none))
serves_alike plans others (Network m inputs) before now answer none served = served
serves_alike plans others (Make request) before now answer none served = served
serves_alike plans others (Recheck given) before now answer none served = served
serves_alike plans others (Series given) before now answer none served = served
serves_alike plans others (Robust inputs) before now answer none served = served

pub whatever_plans : (plans others : Plans) (asked : Asked) (before now : Shown) (answer : Answer) → is_study asked ≡ false → Concludes plans asked before now answer → Concludes others asked before now answer
whatever_plans plans others asked before now (Ok done) none ended = serves_alike plans others asked before now (Ok done) none ended
whatever_plans plans others asked before now (Err (Report fault)) none ended = serves_alike plans others asked before now (Err fault) none ended
whatever_plans plans others asked before now (Err (Certificate refusal)) none ended = ended
whatever_plans plans others asked before now (Err (Memory wanting)) none ended = (lacks_alike plans others wanting asked none ended.0, ended.1)
whatever_plans plans others asked before now (Err (Input fault)) none ended = absurd ended

-- by the plans of monitors that have begun
concludes_studied : (plans : Plans) (given : StudyAsked) (outlooks : List View → List (List ℕ)) (monitors : ℕ) (before now : Shown) (answer : Result (Unit {0}) StudyFault)
    → ((views : List View) → outlooks views ≡ plans (roster_of given.inputs.case given.inputs.question.event) views)
    → ((roster : RosterView) (views : List View) → length (plans roster views) ≡ monitors)
    → ServesStudy given.inputs monitors (IsRightStudy given.inputs given.detail (λ roster views. outlooks views)) before now answer → Concludes plans (Study given) before now (studied answer)
concludes_studied plans given outlooks monitors before now (Ok done) same count served =
    record { met = served.met; text = served.text; right = by_plans given.inputs given.detail outlooks plans same served.text served.right; written = served.written }
concludes_studied plans given outlooks monitors before now (Err (study.Report CannotWrite)) same count served =
    record { met = served.met; text = served.text; right = by_plans given.inputs given.detail outlooks plans same served.text served.right; part = served.part; cause = served.cause }
concludes_studied plans given outlooks monitors before now (Err (study.Report (Refused refusal))) same count served = served
concludes_studied plans given outlooks monitors before now (Err study.Memory) same count served =
    ((λ roster views. subst (λ n. 0 < n) (sym (count roster views)) served.0, served.1.0), served.1.1)

pub over_storm : (plans : Plans) (given : StudyAsked) (outlooks : List View → List (List ℕ)) (monitors : ℕ) (before now : Shown) (answer : Result (Unit {0}) StudyFault) (whole : Answer)
    → ((views : List View) → outlooks views ≡ plans (roster_of given.inputs.case given.inputs.question.event) views)
    → ((roster : RosterView) (views : List View) → length (plans roster views) ≡ monitors)
    → ServesStudy given.inputs monitors (IsRightStudy given.inputs given.detail (λ roster views. outlooks views)) before now answer → whole ≡ studied answer
    → Concludes plans (Study given) before now whole
over_storm plans given outlooks monitors before now answer whole same count served ends =
    subst (Concludes plans (Study given) before now) (sym ends) (concludes_studied plans given outlooks monitors before now answer same count served)

-- how a call of `recheck` ends
concludes_rechecked : (plans : Plans) (given : RecheckAsked) (before now : Shown) (answer : Result (Unit {0}) RecheckFault)
    → ServesRecheck given.inputs given.certificate before now answer → Concludes plans (Recheck given) before now (rechecked answer)
concludes_rechecked plans given before now (Ok done) served = served
concludes_rechecked plans given before now (Err (recheck.Report fault)) served = served
concludes_rechecked plans given before now (Err (recheck.Refused refusal)) served = served

pub over_certificate : (plans : Plans) (given : RecheckAsked) (before now : Shown) (answer : Result (Unit {0}) RecheckFault) (whole : Answer)
    → ServesRecheck given.inputs given.certificate before now answer → whole ≡ rechecked answer → Concludes plans (Recheck given) before now whole
over_certificate plans given before now answer whole served ends =
    subst (Concludes plans (Recheck given) before now) (sym ends) (concludes_rechecked plans given before now answer served)

-- nothing was written, since memory ran out for a workspace
pub lacking_workspace : (plans : Plans) (asked : Asked) (s : Shown) (whole : Answer) → IsErrAnd whole (λ e. e ≡ Memory Workspace) → Concludes plans asked s s whole
lacking_workspace plans asked s whole h = subst (Concludes plans asked s s) (sym (answered whole (Memory Workspace) h)) (tt, keeps-refl s.bytes)
