-- A vector whose items were changed through a slice.
use Rattle.std.proofs.Common.{◌≡◌, ◌∙◌, ℕ, List, ◌++◌, length, take, drop, arith, take_all}
use Rattle.std.proofs.lemmas.List.{take-append-le}

pub written_back : {X : Type 0} (old new : List X) (n : ℕ) → length old ≡ n → length new ≡ length old → take n (new ++ drop (length new) old) ≡ new
written_back old new n len same = take-append-le n new (drop (length new) old) (omega (arith, len, same)) ∙ take_all n new (omega (arith, len, same))
