-- Lists of one item, as many times as there is space for.
use Rattle.std.proofs.Common.{◌≡◌, ℕ, ◌<◌, List, length, get_or, ap, sym, subst, ◌∙◌}
use Rattle.std.specs.Prelude.{replicate}
use Rattle.std.proofs.lemmas.List.{ext_get_or, length-replicate, get_or-replicate}

-- there are as many items
pub repeated_length : {A : Type 0} (n : ℕ) (x : A) (xs : List A) → xs ≡ replicate n x → length xs ≡ n
repeated_length n x xs e = ap length e ∙ length-replicate n x

-- a list whose items are all this one
pub all_same : {A : Type 0} (n : ℕ) (x d : A) (xs : List A) → length xs ≡ n → ((k : ℕ) → k < n → get_or xs k d ≡ x) → xs ≡ replicate n x
all_same n x d xs count same =
    ext_get_or d xs (replicate n x) (count ∙ sym (length-replicate n x))
    (λ k within. let inside : k < n = subst (λ m. k < m) count within in same k inside ∙ sym (get_or-replicate n k x d inside))
