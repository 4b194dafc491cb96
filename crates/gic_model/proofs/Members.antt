-- What holds of each item of a list, of those that a test keeps, and of the one that passes it.
use Rattle.std.proofs.Common.{◌≡◌, ◌⊎◌, ℕ, ◌+◌, Bool, true, false, cond, ◌&&◌, ◌||◌, List, [], ◌∷◌, refl, ap, sym, ◌∙◌, inl, inr, ◌<◌, length, arith}
use Rattle.std.specs.List.{AllByRecursion, filter, list_any, enumerate_from}
use Rattle.gic_base.proofs.Each.{weaker}
use Rattle.gic_model.specs.declared.parts.Element.{Element}

-- what holds of each element and the test's answer lead to a fact of those that the test keeps
pub kept : {X : Type 0} (test : X → Bool) (P Q : X → Type 0) → ((x : X) → test x ≡ true → P x → Q x) →
    (xs : List X) → AllByRecursion P xs → AllByRecursion Q (filter test xs)
kept test P Q leads [] h = tt
kept test P Q leads (x ∷ xs) h = by (kept test P Q leads xs h.1) (test x) refl
  where
    by : AllByRecursion Q (filter test xs) → (b : Bool) → test x ≡ b → AllByRecursion Q (cond b (x ∷ filter test xs) (filter test xs))
    by rest true is = (leads x is h.0, rest)
    by rest false is = rest

-- what holds of each element, with its place
pub placed : (P : Element → Type 0) (i : ℕ) (es : List Element) → AllByRecursion P es → AllByRecursion (λ p. P p.1) (enumerate_from i es)
placed P i [] h = tt
placed P i (e ∷ es) h = (h.0, placed P (i + 1) es h.1)

-- two facts of each element
pub both : {X : Type 0} (P Q : X → Type 0) (xs : List X) → AllByRecursion P xs → AllByRecursion Q xs → AllByRecursion (λ x. P x × Q x) xs
both P Q [] h k = tt
both P Q (x ∷ xs) h k = ((h.0, k.0), both P Q xs h.1 k.1)

-- whatever holds of each element for each number
pub for_each : {X : Type 0} (P : ℕ → X → Type 0) (xs : List X) → ((m : ℕ) → AllByRecursion (P m) xs) → AllByRecursion (λ x. (m : ℕ) → P m x) xs
for_each P [] h = tt
for_each P (x ∷ xs) h = (λ m. (h m).0, for_each P xs (λ m. (h m).1))

or_true : (b : Bool) → (b || true) ≡ true
or_true true = refl
or_true false = refl

-- an element that passes a test is one that the list has
pub any_of_each : {X : Type 0} (test : X → Bool) (xs : List X) → AllByRecursion (λ x. test x ≡ true → list_any test xs ≡ true) xs
any_of_each test [] = tt
any_of_each test (x ∷ xs) =
    (λ h. ap (λ b. b || list_any test xs) h, weaker _ _ (λ y have passes. ap (λ b. test x || b) (have passes) ∙ or_true (test x)) xs (any_of_each test xs))

-- a fact of each element, at the one that passes a test
pub by_any : {X : Type 0} (test : X → Bool) (P : X → Type 0) {C : Type 0} → ((x : X) → test x ≡ true → P x → C) → (xs : List X) → AllByRecursion P xs → list_any test xs ≡ true → C
by_any test P {C} leads [] h any = absurd (no_way any)
  where
    no_way : false ≡ true → ⊥
    no_way e = cc
by_any test P {C} leads (x ∷ xs) h any = by (by_any test P leads xs h.1) (test x) refl
  where
    by : (list_any test xs ≡ true → C) → (b : Bool) → test x ≡ b → C
    by later true is = leads x is h.0
    by later false is = later (sym (ap (λ b. b || list_any test xs) is) ∙ any)

-- a test that some item passes keeps an item
pub some_kept : {X : Type 0} (test : X → Bool) (xs : List X) → list_any test xs ≡ true → 0 < length (filter test xs)
some_kept test [] any = absurd (no_way any)
  where
    no_way : false ≡ true → ⊥
    no_way e = cc
some_kept test (x ∷ xs) any = by (some_kept test xs) (test x) any
  where
    by : (list_any test xs ≡ true → 0 < length (filter test xs)) → (b : Bool) → (b || list_any test xs) ≡ true → 0 < length (cond b (x ∷ filter test xs) (filter test xs))
    by later true passes = omega arith
    by later false passes = later passes

-- from those that pass a test to all
pub opened : {X : Type 0} (test : X → Bool) (Q : X → Type 0) (xs : List X) → AllByRecursion Q (filter test xs) → AllByRecursion (λ x. test x ≡ true → Q x) xs
opened test Q [] h = tt
opened test Q (x ∷ xs) h = by (opened test Q xs) (test x) refl h
  where
    no_way : false ≡ true → ⊥
    no_way e = cc

    by : (AllByRecursion Q (filter test xs) → AllByRecursion (λ y. test y ≡ true → Q y) xs) → (b : Bool) → test x ≡ b → AllByRecursion Q (cond b (x ∷ filter test xs) (filter test xs)) →
        AllByRecursion (λ y. test y ≡ true → Q y) (x ∷ xs)
    by rest true is have = (λ passes. have.0, rest have.1)
    by rest false is have = (λ passes. absurd (no_way (sym is ∙ passes)), rest have)

-- tests that agree at each item keep the same items
pub filter_same : {X : Type 0} (p q : X → Bool) (xs : List X) → AllByRecursion (λ x. p x ≡ q x) xs → filter p xs ≡ filter q xs
filter_same p q [] h = refl
filter_same p q (x ∷ xs) h = ap (λ b. cond b (x ∷ filter p xs) (filter p xs)) h.0 ∙ ap (λ ys. cond (q x) (x ∷ ys) ys) (filter_same p q xs h.1)

-- the halves of a test
pub or_cases : (a b : Bool) → (a || b) ≡ true → (a ≡ true) ⊎ (b ≡ true)
or_cases true b h = inl refl
or_cases false b h = inr h

pub and_first : (a b : Bool) → (a && b) ≡ true → a ≡ true
and_first true b h = refl
and_first false b h = h

pub and_second : (a b : Bool) → (a && b) ≡ true → b ≡ true
and_second true b h = h
and_second false b h = absurd (no_way h)
  where
    no_way : false ≡ true → ⊥
    no_way e = cc
