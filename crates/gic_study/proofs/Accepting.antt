-- What holds of what is accepted.
use Rattle.std.proofs.Common.{Result, Ok, Err}
use Rattle.std.specs.Prelude.{IfOk, ⊤}
use Rattle.gic_ask.specs.Outcome.{Outcome, Refuses, Lacks, Accepts, ◌>>=◌, reading}
use Rattle.gic_ask.specs.declared.fault.InputRefusal.{InputRefusal}

abbrev pub Holds : {A : Type 0} → (A → Type 0) → Outcome A → Type 0
Holds P (Refuses refusal) = ⊤
Holds P (Lacks file) = ⊤
Holds P (Accepts a) = P a

abbrev pub Any : {A : Type 0} → A → Type 0
Any a = ⊤

module _ {A B : Type 0} (P : A → Type 0) (Q : B → Type 0) where
  pub then_holds : (o : Outcome A) (next : A → Outcome B) → Holds P o → ((a : A) → P a → Holds Q (next a)) → Holds Q (o >>= next)
  then_holds (Refuses refusal) next h more = tt
  then_holds (Lacks file) next h more = tt
  then_holds (Accepts a) next h more = more a h

pub anyway : {A : Type 0} (o : Outcome A) → Holds Any o
anyway (Refuses refusal) = tt
anyway (Lacks file) = tt
anyway (Accepts a) = tt

pub reading_holds : {A E : Type 0} (P : A → Type 0) (refusal : E → InputRefusal) (r : Result A E) → IfOk r P → Holds P (reading refusal r)
reading_holds P refusal (Ok a) h = h
reading_holds P refusal (Err e) h = tt

pub made_holds : {A B : Type 0} (P : A → Type 0) (Q : B → Type 0) (o : Outcome A) (make : A → B) → Holds P o → ((a : A) → P a → Q (make a)) → Holds Q (o >>= (λ a. Accepts (make a)))
made_holds P Q o make h more = then_holds P Q o (λ a. Accepts (make a)) h more
