-- How the call of a study ends.
use Rattle.std.specs.Prelude.{ℕ, ◌<◌, List, Ok, Err, Result}
use Rattle.std.specs.Io.KnownBytes.{Keeps}
use Rattle.gic_base.specs.declared.sink.WriteFailed.{WriteFailed}
use Rattle.gic_course.specs.Steps.{storm_steps}
use Rattle.gic_inputs.specs.declared.inputs.StormInputs.{StormInputs}
use Rattle.gic_stand.specs.Needs.{Solved, IsMet}
use Rattle.gic_stand.specs.Serves.{Shown, Serves}
use Rattle.gic_stand.specs.declared.fault.ReportFault.TheVariants.{CannotWrite}
use Rattle.gic_study_mode.specs.declared.fault.StudyFault.{StudyFault}
use Rattle.gic_study_mode.specs.declared.fault.StudyFault.TheVariants.{Report, Memory}

-- with this many monitors: as every mode that solves each step, or out of memory, where the network can be solved at each step and there is a monitor
abbrev pub ServesStudy : StormInputs → (monitors : ℕ) → (IsRight : List ℕ → Type 0) → (before now : Shown) → Result (Unit {0}) StudyFault → Type 0
ServesStudy inputs monitors IsRight before now (Ok done) = Serves Solved inputs.case (storm_steps inputs) IsRight before now (Ok done)
ServesStudy inputs monitors IsRight before now (Err (Report fault)) = Serves Solved inputs.case (storm_steps inputs) IsRight before now (Err fault)
ServesStudy inputs monitors IsRight before now (Err Memory) = (0 < monitors) × (IsMet Solved (storm_steps inputs) × Keeps before.bytes now.bytes)

-- how the writing of a study ends
abbrev pub written_so : Result (Unit {0}) WriteFailed → Result (Unit {0}) StudyFault
written_so (Ok done) = Ok done
written_so (Err failed) = Err (Report CannotWrite)
