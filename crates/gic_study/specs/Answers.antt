-- How a call ends, and why.
use Rattle.std.specs.Prelude.{◌≡◌, ℕ, List, Ok, Err, Result, ◌⊎◌}
use Rattle.std.specs.declared.option.Option.{Option}
use Rattle.std.specs.Io.KnownBytes.{Appends, Keeps}
use Rattle.gic_base.specs.Causes.{Rose}
use Rattle.gic_files.specs.Files.{Files, Fetches, fetches}
use Rattle.gic_base.specs.Pieces.{AppendsPart}
use Rattle.gic_ask.specs.Asks.{Asks}
use Rattle.gic_ask.specs.declared.fault.InputFault.{InputFault}
use Rattle.gic_ask.specs.declared.request.Asked.{Asked}
use Rattle.gic_stand.specs.Serves.{Shown, shown}
use Rattle.gic_study.specs.Concluding.{Answer, Concludes}
use Rattle.gic_study.specs.Faults.{status_of_fault, line_of_fault}
use Rattle.gic_study.specs.Modes.{Plans}
use Rattle.gic_study.specs.declared.fault.Fault.TheVariants.{Input}

-- what the library, the output and the error sink show at one moment: the names that were fetched and those whose fetch failed, and the two sinks
pub record Moment : Type 0 where
  pub fetches : Fetches
  pub out : Shown
  pub err : Shown

abbrev pub moment : {L S E : Type 0} → (fetched failures : L → List (List ℕ)) → (S → Option (List ℕ)) → (S → ℕ) → (E → Option (List ℕ)) → (E → ℕ) → L → S → E → Moment
moment fetched failures written faults told told_faults l s e = record { fetches = fetches fetched failures l; out = shown written faults s; err = shown told told_faults e }

-- a call: its words, the files of its library where it tells them, what its monitors plan, and the moments before it and behind it
pub record Call : Type 0 where
  pub words : List (List ℕ)
  pub files : Option Files
  pub plans : Plans
  pub before : Moment
  pub now : Moment

-- what its words and files ask for
abbrev pub AsksFor : Call → Result Asked InputFault → Type 0
AsksFor call = Asks call.words call.files call.before.fetches call.now.fetches

-- nothing is asked for, and nothing was written
pub record Unasked (call : Call) (fault : InputFault) : Type 0 where
  pub asks : AsksFor call (Err fault)
  pub kept : Keeps call.before.out.bytes call.now.out.bytes

-- this is asked for, and the call of its mode ended so
pub record Served (call : Call) (answer : Answer) : Type 0 where
  pub asked : Asked
  pub asks : AsksFor call (Ok asked)
  pub concludes : Concludes call.plans asked call.before.out call.now.out answer

-- why a call has this answer
abbrev pub Explains : Call → Answer → Type 0
Explains call (Err (Input fault)) = Unasked call fault
Explains call answer = Served call answer

-- the status with which the program ends
abbrev pub status_of : Answer → ℕ
status_of (Ok done) = 0
status_of (Err fault) = status_of_fault fault

-- the line was written, or a prefix of it where a write failed
pub record TellsLine (before now : Shown) (line : List ℕ) : Type 0 where
  pub part : AppendsPart before.bytes now.bytes line
  pub whole : Appends before.bytes now.bytes line ⊎ Rose before.faults now.faults

-- what is told of an answer: nothing, or the line of its fault
abbrev pub Tells : (before now : Shown) → Answer → Type 0
Tells before now (Ok done) = Keeps before.bytes now.bytes
Tells before now (Err fault) = TellsLine before now (line_of_fault fault)

-- how a call ended: its status, what was added to the output and the line on the error sink are those of an answer that has its reason
pub record CallEnds (call : Call) (status : ℕ) : Type 0 where
  pub answer : Answer
  pub status_is : status ≡ status_of answer
  pub explained : Explains call answer
  pub line : Tells call.before.err call.now.err answer
