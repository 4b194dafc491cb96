-- How a call ends that writes a text.
use Rattle.std.specs.Prelude.{ℕ, List, OnOk, Result}
use Rattle.std.specs.declared.option.Option.{Option}
use Rattle.std.specs.Io.KnownBytes.{Appends}
use Rattle.gic_base.specs.Causes.{HasCause}
use Rattle.gic_base.specs.Pieces.{AppendsPart}

-- between two states of a sink a text was written: all of it where the call succeeded, and else a part that begins with its first byte, and the count of failed writes rose
pub record Writes {S T E : Type 0} (bytes : S → Option (List ℕ)) (faults : S → ℕ) (before now : S) (text : List ℕ) (result : Result T E) : Type 0 where
  pub all : OnOk result (Appends (bytes before) (bytes now) text)
  pub part : AppendsPart (bytes before) (bytes now) text
  pub cause : HasCause (faults before) (faults now) result
