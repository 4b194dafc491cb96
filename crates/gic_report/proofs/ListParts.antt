-- Lists that begin with a given list behind a place, and what holds of all numbered items of one.
use Rattle.std.proofs.Common.{◌≡◌, ◌∙◌, ℕ, ◌+◌, ◌<◌, zero, suc, List, [], ◌∷◌, ◌++◌, length, drop, get_or, refl, sym, ap, arith, add-one, append_assoc, length-append}
use Rattle.std.specs.List.{AllByRecursion, enumerate_from, flat_map}
use Rattle.gic_base.proofs.Each.{all_joined}

-- what stands at a place, and what behind it
pub drop_first : {A : Type 0} (xs : List A) (n : ℕ) (y : A) (ys : List A) → drop n xs ≡ y ∷ ys → (n < length xs) × ((d : A) → get_or xs n d ≡ y) × (drop (n + 1) xs ≡ ys)
drop_first [] zero y ys e = absurd (let f : [] ≡ y ∷ ys = e in cc)
drop_first [] (suc n) y ys e = absurd (let f : [] ≡ y ∷ ys = e in cc)
drop_first (x ∷ xs) zero y ys e =
    let f : x ∷ xs ≡ y ∷ ys = e in
    let head : x ≡ y = cc in
    let tail : xs ≡ ys = cc in
    (omega arith, (λ d. head), tail)
drop_first (x ∷ xs) (suc n) y ys e =
    let later = drop_first xs n y ys e in
    (omega (arith, later.0), later.1, ap (λ k. drop k (x ∷ xs)) (add-one (suc n)) ∙ ap (λ k. drop k xs) (sym (add-one n)) ∙ later.2)

drop_past : {A : Type 0} (xs ys : List A) → drop (length xs) (xs ++ ys) ≡ ys
drop_past [] ys = refl
drop_past (x ∷ xs) ys = drop_past xs ys

-- what follows two lists
pub drop_two : {A : Type 0} (xs ys zs : List A) (m n : ℕ) → length xs ≡ m → length ys ≡ n → drop (m + n) (xs ++ (ys ++ zs)) ≡ zs
drop_two xs ys zs m n h k =
    let size : m + n ≡ length (xs ++ ys) = omega (arith, length-append xs ys, h, k) in
    ap (λ i. drop i (xs ++ (ys ++ zs))) size ∙ ap (λ l. drop (length (xs ++ ys)) l) (sym (append_assoc xs ys zs)) ∙ drop_past (xs ++ ys) zs

-- what holds of the items of a list holds of the one at a place
pub all_at : {A : Type 0} (P : A → Type 0) (xs : List A) (n : ℕ) (d : A) → n < length xs → AllByRecursion P xs → P (get_or xs n d)
all_at P [] n d h k = absurd (omega (arith, h))
all_at P (x ∷ xs) zero d h k = k.0
all_at P (x ∷ xs) (suc n) d h k = all_at P xs n d (omega (arith, h)) k.1

all_numbered_from : {A B : Type 0} (P : B → Type 0) (f : ℕ × A → List B) (xs : List A)
    → ((n : ℕ) (x : A) → n < length xs → ((d : A) → get_or xs n d ≡ x) → AllByRecursion P (f (n, x)))
    → (n : ℕ) (rest : List A) → drop n xs ≡ rest → AllByRecursion P (flat_map f (enumerate_from n rest))
all_numbered_from P f xs each n [] e = tt
all_numbered_from P f xs each n (x ∷ rest) e =
    let first = drop_first xs n x rest e in
    all_joined P (f (n, x)) (flat_map f (enumerate_from (n + 1) rest)) (each n x first.0 first.1) (all_numbered_from P f xs each (n + 1) rest first.2)

-- what holds of all that each numbered item gives
pub all_numbered : {A B : Type 0} (P : B → Type 0) (f : ℕ × A → List B) (xs : List A)
    → ((n : ℕ) (x : A) → n < length xs → ((d : A) → get_or xs n d ≡ x) → AllByRecursion P (f (n, x)))
    → AllByRecursion P (flat_map f (enumerate_from 0 xs))
all_numbered P f xs each = all_numbered_from P f xs each 0 xs refl
