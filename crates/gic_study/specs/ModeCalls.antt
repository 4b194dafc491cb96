-- What the calls of single modes say, in the words of the whole. No reader of the headline needs these.
use Rattle.std.specs.Prelude.{◌≡◌, ◌≢◌, ℕ, List, [], ◌∷◌, Ok, Err, Result}
use Rattle.gic_ask.specs.declared.request.NetworkAsked.{NetworkAsked}
use Rattle.gic_words.specs.declared.mode.NetworkMode.{NetworkMode}
use Rattle.gic_case.specs.Lists.{Lists}
use Rattle.gic_model.specs.Sums.{Placed}
use Rattle.gic_inputs.specs.declared.inputs.Inputs.{Inputs}
use Rattle.gic_stand.specs.Needs.{Need}
use Rattle.gic_stand.specs.Standing.{standing_of, steps_of}
use Rattle.gic_stand.specs.Serves.{Shown, Serves}
use Rattle.gic_recheck.specs.declared.fault.RecheckFault.{RecheckFault}
use Rattle.gic_recheck.specs.declared.fault.RecheckFault.TheVariants as recheck
use Rattle.gic_recheck.specs.declared.fault.WorkspaceFault.{WorkspaceFault}
use Rattle.gic_recheck.specs.declared.fault.WorkspaceFault.TheVariants as workspace
use Rattle.gic_stand.specs.declared.fault.ReportFault.{ReportFault}
use Rattle.gic_study_mode.specs.declared.fault.StudyFault.{StudyFault}
use Rattle.gic_study_mode.specs.declared.fault.StudyFault.TheVariants as study
use Rattle.gic_study.specs.Concluding.{Answer}
use Rattle.gic_study.specs.Modes.{network_meaning}
use Rattle.gic_study.specs.declared.fault.Fault.{Fault}
use Rattle.gic_study.specs.declared.fault.Fault.TheVariants.{Report, Certificate, Memory}
use Rattle.gic_study.specs.declared.fault.Wanting.TheVariants.{Workspace, Texts}

-- ---- the answer of the whole, by that of a mode

-- of a mode that tells no fault of its own
abbrev pub reported : Result (Unit {0}) ReportFault → Answer
reported (Ok done) = Ok done
reported (Err fault) = Err (Report fault)

-- of one that takes memory for its workspace alone
abbrev pub told : {E : Type 0} → Result (Result (Unit {0}) ReportFault) E → Answer
told (Ok answer) = reported answer
told (Err e) = Err (Memory Workspace)

-- of `study`, whose monitors take memory for their texts
abbrev pub studied : Result (Unit {0}) StudyFault → Answer
studied (Ok done) = Ok done
studied (Err (study.Report fault)) = Err (Report fault)
studied (Err study.Memory) = Err (Memory Texts)

-- of `recheck` without its workspace
abbrev pub without_workspace : WorkspaceFault → Fault
without_workspace (workspace.Refused refusal) = Certificate refusal
without_workspace workspace.Memory = Memory Workspace

-- of `recheck`
abbrev pub rechecked : Result (Unit {0}) RecheckFault → Answer
rechecked (Ok done) = Ok done
rechecked (Err (recheck.Report fault)) = Err (Report fault)
rechecked (Err (recheck.Refused refusal)) = Err (Certificate refusal)

-- ---- workspaces

-- how the call of a mode ends that needs this of the steps of a case, where its workspace was made; nothing is written where it was not
abbrev pub ServesMade : {E : Type 0} → Need → Lists → List (List Placed) → (IsRight : List ℕ → Type 0) → (before now : Shown) → Result (Result (Unit {0}) ReportFault) E → Type 0
ServesMade need case steps IsRight before now (Ok answer) = Serves need case steps IsRight before now answer
ServesMade need case steps IsRight before now (Err e) = now ≡ before

-- over the network of a case, with all its switchings in force
abbrev pub ServesOver : {Q E : Type 0} → Need → (IsRight : Inputs Q → List ℕ → Type 0) → Inputs Q → (before now : Shown) → Result (Result (Unit {0}) ReportFault) E → Type 0
ServesOver need IsRight inputs = ServesMade need inputs.case (steps_of inputs) (IsRight inputs)

-- of a mode over the network of a case
abbrev pub ServesNetwork : {E : Type 0} → NetworkMode → NetworkAsked → (before now : Shown) → Result (Result (Unit {0}) ReportFault) E → Type 0
ServesNetwork m a = ServesMade (network_meaning m).need a.case (standing_of a.case a.switchings ∷ []) ((network_meaning m).IsRight a)

-- out of memory is told for the workspace only where it wasn't made, and where it wasn't, this is told
abbrev pub TellsMaking : {W E : Type 0} → (fault_of : E → Fault) → Result W E → Answer → Type 0
TellsMaking fault_of (Ok workspace) answer = answer ≢ Err (Memory Workspace)
TellsMaking fault_of (Err e) answer = answer ≡ Err (fault_of e)
