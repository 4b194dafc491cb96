-- What a mode's call promises that runs in its workspace. Out of memory is no answer.
use Rattle.std.specs.Prelude.{ℕ, List, Ok, Err, Result}
use Rattle.std.specs.declared.option.Option.{Option}
use Rattle.std.specs.Io.KnownBytes.{Appends, Keeps}
use Rattle.gic_base.specs.Causes.{Rose}
use Rattle.gic_base.specs.Pieces.{AppendsPart}
use Rattle.gic_base.specs.declared.sink.WriteFailed.{WriteFailed}
use Rattle.gic_case.specs.Lists.{Lists}
use Rattle.gic_model.specs.Sums.{Placed}
use Rattle.gic_stand.specs.Needs.{Need, IsMet, IsUnmet}
use Rattle.gic_stand.specs.declared.fault.ReportFault.{ReportFault}
use Rattle.gic_stand.specs.declared.fault.ReportFault.TheVariants.{Refused, CannotWrite}

-- what a sink shows at one moment: the bytes written, where it tells them, and the count of failed writes. A stream of the system tells none: then `Appends` and `Keeps` are true of themselves
pub record Shown : Type 0 where
  pub bytes : Option (List ℕ)
  pub faults : ℕ

abbrev pub shown : {S : Type 0} → (S → Option (List ℕ)) → (S → ℕ) → S → Shown
shown bytes faults sink = record { bytes = bytes sink; faults = faults sink }

-- the whole of a right text was written, and the steps meet the need
pub record Reports (need : Need) (steps : List (List Placed)) (IsRight : List ℕ → Type 0) (before now : Shown) : Type 0 where
  pub met : IsMet need steps
  pub text : List ℕ
  pub right : IsRight text
  pub written : Appends before.bytes now.bytes text

-- a prefix of it was, and the count of failed writes rose, or stood at its end
pub record ReportsPart (need : Need) (steps : List (List Placed)) (IsRight : List ℕ → Type 0) (before now : Shown) : Type 0 where
  pub met : IsMet need steps
  pub text : List ℕ
  pub right : IsRight text
  pub part : AppendsPart before.bytes now.bytes text
  pub cause : Rose before.faults now.faults

-- how a call ends that needs this of the steps of a case, and writes a text that is right
abbrev pub Serves : Need → Lists → List (List Placed) → (IsRight : List ℕ → Type 0) → (before now : Shown) → Result (Unit {0}) ReportFault → Type 0
Serves need case steps IsRight before now (Ok done) = Reports need steps IsRight before now
Serves need case steps IsRight before now (Err CannotWrite) = ReportsPart need steps IsRight before now
Serves need case steps IsRight before now (Err (Refused refusal)) = IsUnmet need case steps refusal × Keeps before.bytes now.bytes

-- how the writing of a report ends
abbrev pub ended : Result (Unit {0}) WriteFailed → Result (Unit {0}) ReportFault
ended (Ok done) = Ok done
ended (Err e) = Err CannotWrite
