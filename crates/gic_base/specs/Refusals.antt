-- How a reader with rules answers. A rule maps what is read to the list of all refusals that it gives, in order. The rules of a reader are joined by `++`, and the first refusal of the joined list is the answer.
use Rattle.std.specs.Prelude.{◌≡◌, List, [], ◌∷◌, Bool, if◌then◌else◌, Result, Ok, Err}
use Rattle.gic_base.specs.declared.read_fault.ReadFault.{ReadFault}
use Rattle.gic_base.specs.declared.read_fault.ReadFault.TheVariants.{Refused}

-- the refusal, unless the fact holds
abbrev pub unless : {E : Type 0} → Bool → E → List E
unless fact e = if fact then [] else e ∷ []

-- no refusal lets the value stand, and the first one answers otherwise
abbrev pub settle : {A E : Type 0} → List E → A → Result A E
settle [] x = Ok x
settle (e ∷ es) x = Err e

-- what a reader answered, seen by view, is the right answer; out of memory may come in place of any
abbrev pub AnswersRead : {X Y E : Type 0} → (X → Y) → Result X (ReadFault E) → Result Y E → Type 0
AnswersRead view (Ok x) right = right ≡ Ok (view x)
AnswersRead {X} {Y} {E} view (Err fault) right = (e : E) → fault ≡ Refused e → right ≡ Err e

-- the same of what needs no memory
abbrev pub AnswersExactly : {X Y E : Type 0} → (X → Y) → Result X E → Result Y E → Type 0
AnswersExactly view (Ok x) right = right ≡ Ok (view x)
AnswersExactly view (Err e) right = right ≡ Err e
