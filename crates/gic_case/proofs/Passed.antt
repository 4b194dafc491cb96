-- Items of an iterator, passed one by one.
use Rattle.std.proofs.Common.{◌≡◌, ℕ, suc, ◌+◌, ◌-◌, ◌<◌, List, ◌∷◌, Option, Some, None, slice_get, sym, ap, ◌∙◌, arith}
use Rattle.std.specs.Iterator.{YieldsFirst}

-- one was passed of the n that are to be passed
pub passed_one : {S A : Type 0} (rest : S → List A) (s t : S) (r : Option A) (n k : ℕ) → YieldsFirst rest s r t → k < n → slice_get (rest s) (n - k) ≡ slice_get (rest t) (n - (k + 1))
passed_one rest s t None n k h more = ap (λ l. slice_get l (n - k)) h.0 ∙ sym (ap (λ l. slice_get l (n - (k + 1))) h.1)
passed_one rest s t (Some x) n k h more =
    let one : n - k ≡ suc (n - (k + 1)) = omega arith in
    ap (λ l. slice_get l (n - k)) h ∙ ap (slice_get (x ∷ rest t)) one

-- the next one is the first that is left
pub next_is_first : {S A : Type 0} (rest : S → List A) (s t : S) (r : Option A) → YieldsFirst rest s r t → slice_get (rest s) 0 ≡ r
next_is_first rest s t None h = ap (λ l. slice_get l 0) h.0
next_is_first rest s t (Some x) h = ap (λ l. slice_get l 0) h
