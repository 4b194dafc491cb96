-- The steps of one pass over what is read, up to the first refusal. Contracts of readers speak of rules and not of these; they serve the private functions behind a reader.
use Rattle.std.specs.Prelude.{Bool, if◌then◌else◌, Option, Some, None, Result, Ok, Err}

infixl 10 ◌>>=◌
abbrev pub ◌>>=◌ : {A B E : Type 0} → Result A E → (A → Result B E) → Result B E
(Ok x) >>= f = f x
(Err e) >>= f = Err e

-- the value, or this refusal
abbrev pub or_refuse : {A E : Type 0} → Option A → E → Result A E
or_refuse (Some x) e = Ok x
or_refuse None e = Err e

-- go on where the fact holds
abbrev pub test : {E : Type 0} → Bool → E → Result (Unit {0}) E
test fact e = if fact then Ok (tt {0}) else Err e
