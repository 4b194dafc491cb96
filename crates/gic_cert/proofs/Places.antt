-- As many places as there is space for.
use Rattle.std.proofs.Common.{◌≡◌, ℕ, List, length, ap, ◌∙◌}
use Rattle.std.specs.Prelude.{replicate}
use Rattle.std.proofs.lemmas.List.{length-replicate}

pub places_for : {A : Type 0} (n : ℕ) (x : A) (xs : List A) → xs ≡ replicate n x → length xs ≡ n
places_for n x xs e = ap length e ∙ length-replicate n x
