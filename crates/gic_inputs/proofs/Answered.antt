-- What a call that fails answers.
use Rattle.std.proofs.Common.{◌≡◌, Result, Ok, Err, ap}
use Rattle.std.specs.Prelude.{IsErrAnd}

-- the answer is this fault
pub answered : {A E : Type 0} (answer : Result A E) (fault : E) → IsErrAnd answer (λ e. e ≡ fault) → answer ≡ Err fault
answered (Ok done) fault h = absurd h
answered (Err e) fault h = ap Err h
