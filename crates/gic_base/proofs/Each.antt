-- What holds of each item of a list, or of lists that are joined, and lists of one item over and over.
use Rattle.std.proofs.Common.{◌≡◌, ℕ, zero, suc, List, [], ◌∷◌, ◌++◌, map, replicate, refl, ap}
use Rattle.std.specs.List.{AllByRecursion}

-- of two lists together, of each of them
pub both_parts : {X : Type 0} (P : X → Type 0) (xs ys : List X) → AllByRecursion P (xs ++ ys) → AllByRecursion P xs × AllByRecursion P ys
both_parts P [] ys all = (tt, all)
both_parts P (x ∷ xs) ys all = let rest = both_parts P xs ys all.1 in ((all.0, rest.0), rest.1)

-- and of each of two lists, of both together
pub all_joined : {X : Type 0} (P : X → Type 0) (xs ys : List X) → AllByRecursion P xs → AllByRecursion P ys → AllByRecursion P (xs ++ ys)
all_joined P [] ys h k = k
all_joined P (x ∷ xs) ys h k = (h.0, all_joined P xs ys h.1 k)

-- nothing is asked of an item
pub anything : {X : Type 0} (xs : List X) → AllByRecursion (λ x. Unit {0}) xs
anything [] = tt
anything (x ∷ xs) = (tt, anything xs)

-- a fact of each item that leads to another
pub weaker : {X : Type 0} (P Q : X → Type 0) → ((x : X) → P x → Q x) → (xs : List X) → AllByRecursion P xs → AllByRecursion Q xs
weaker P Q leads [] h = tt
weaker P Q leads (x ∷ xs) h = (leads x h.0, weaker P Q leads xs h.1)

-- what is made of each of the same items is the same
pub map-replicate : {X Y : Type 0} (f : X → Y) (n : ℕ) (x : X) → map f (replicate n x) ≡ replicate n (f x)
map-replicate f zero x = refl
map-replicate f (suc n) x = ap (λ l. f x ∷ l) (map-replicate f n x)
