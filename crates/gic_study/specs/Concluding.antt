-- How the call of a mode ends, by the fault of the whole.
use Rattle.std.specs.Prelude.{◌<◌, List, length, ⊤, Ok, Err, Result}
use Rattle.std.specs.Io.KnownBytes.{Keeps}
use Rattle.gic_ask.specs.declared.request.Asked.{Asked}
use Rattle.gic_ask.specs.declared.request.Asked.TheVariants.{Study}
use Rattle.gic_course.specs.Steps.{storm_steps}
use Rattle.gic_monitor.specs.RosterView.{RosterView}
use Rattle.gic_stand.specs.Needs.{Solved, IsMet}
use Rattle.gic_stand.specs.Serves.{Shown, Serves}
use Rattle.gic_stand.specs.declared.fault.ReportFault.{ReportFault}
use Rattle.gic_view.specs.View.{View}
use Rattle.gic_study.specs.Modes.{Plans, Meaning, meaning_of, RefusesCertificate}
use Rattle.gic_study.specs.declared.fault.Fault.{Fault}
use Rattle.gic_study.specs.declared.fault.Fault.TheVariants.{Input, Report, Certificate, Memory}
use Rattle.gic_study.specs.declared.fault.Wanting.{Wanting}
use Rattle.gic_study.specs.declared.fault.Wanting.TheVariants.{Workspace, Texts}

-- all of a report, or the fault that ended the call
abbrev pub Answer : Type 0
Answer = Result (Unit {0}) Fault

-- how a call ends that writes a report of this meaning
abbrev pub ServesMeaning : Meaning → Plans → (before now : Shown) → Result (Unit {0}) ReportFault → Type 0
ServesMeaning meaning plans = Serves meaning.need meaning.case meaning.steps (meaning.IsRight plans)

-- there is a monitor
abbrev pub HasMonitors : Plans → Type 0
HasMonitors plans = (roster : RosterView) (views : List View) → 0 < length (plans roster views)

-- where memory may be wanting: for the workspace of any mode, always; for texts in a study alone, which has monitors, and whose network meets its need at each step
abbrev pub MayLackMemory : Plans → Wanting → Asked → Type 0
MayLackMemory plans Workspace asked = ⊤
MayLackMemory plans Texts (Study asked) = HasMonitors plans × IsMet Solved (storm_steps asked.inputs)
MayLackMemory plans Texts _ = ⊥

-- how the call for what is asked for ends: by its report, or without a byte
abbrev pub Concludes : Plans → Asked → (before now : Shown) → Answer → Type 0
Concludes plans asked before now (Ok done) = ServesMeaning (meaning_of asked) plans before now (Ok done)
Concludes plans asked before now (Err (Report fault)) = ServesMeaning (meaning_of asked) plans before now (Err fault)
Concludes plans asked before now (Err (Certificate refusal)) = RefusesCertificate asked refusal × Keeps before.bytes now.bytes
Concludes plans asked before now (Err (Memory wanting)) = MayLackMemory plans wanting asked × Keeps before.bytes now.bytes
Concludes plans asked before now (Err (Input fault)) = ⊥
