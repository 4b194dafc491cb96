-- The greatest ends of totals, taken one by one.
use Rattle.std.proofs.Common.{◌≡◌, ℕ, true, false, List, [], ◌∷◌, ◌++◌, map, Option, None, Some, ℤ, ◌≤ℤ◌, ◌<ℤ◌, refl, sym, ap, ◌∙◌, arith}
use Rattle.std.specs.Prelude.{fold, int_le}
use Rattle.std.specs.Int.{int_max}
use Rattle.std.specs.Option.{option_to_list}
use Rattle.std.proofs.lemmas.Int.{ints, clamps, by_lt_z, fold-int_max_bounds}
use Rattle.gic_monitor.specs.LossText.{Total, first_reaching, greatest_among, greatest_of}

pub not_above : (a b : ℤ) → a ≤ℤ b → int_le a b ≡ true
not_above a b h = grind (arith, ints)

pub above : (a b : ℤ) → b <ℤ a → int_le a b ≡ false
above a b h = grind (arith, ints)

-- two totals
pub greatest_of_two : (a b : Total) (number : ℕ) → (a.high <ℤ b.high → number ≡ b.number) → (b.high ≤ℤ a.high → number ≡ a.number) →
    greatest_among a (b ∷ []) ≡ record { number = number; low = int_max a.low b.low; high = int_max a.high b.high }
greatest_of_two a b number later first =
    by_lt_z a.high b.high
    (λ under.
    let new : int_max a.high b.high ≡ b.high = omega (arith, ints, clamps) in
    rw (new, above b.high a.high under, not_above b.high b.high (omega (arith, ints))) (rw (sym (later under)) refl))
    (λ over.
    let old : int_max a.high b.high ≡ a.high = omega (arith, ints, clamps) in
    rw (old, not_above a.high a.high (omega (arith, ints))) (rw (sym (first over)) refl))

-- the first of two that reaches their greatest high end h, where a later one doesn't reach more; the tests are of h and of the two
first_of_two : (a b : Total) (h : ℤ) (rest : List Total) → h ≡ int_max a.high b.high →
    first_reaching h (a ∷ b ∷ rest) ≡ first_reaching h (a ∷ b ∷ [])
first_of_two a b h rest is =
    by_lt_z a.high b.high
    (λ under.
    let no : int_le h a.high ≡ false = above h a.high (omega (arith, ints, clamps)) in
    let yes : int_le h b.high ≡ true = not_above h b.high (omega (arith, ints, clamps)) in
    rw (no, yes) refl)
    (λ over.
    let yes : int_le h a.high ≡ true = not_above h a.high (omega (arith, ints, clamps)) in
    rw yes refl)

-- two totals may be taken as one, whatever comes after them
first_as_one : (a b : Total) (h : ℤ) (rest : List Total) → int_max a.high b.high ≤ℤ h →
    first_reaching h (greatest_among a (b ∷ []) ∷ rest) ≡ first_reaching h (a ∷ b ∷ rest)
first_as_one a b h rest most =
    by_lt_z (int_max a.high b.high) h
    (λ more.
    let none : int_le h (int_max a.high b.high) ≡ false = above h (int_max a.high b.high) more in
    let first : int_le h a.high ≡ false = above h a.high (omega (arith, ints, clamps)) in
    let second : int_le h b.high ≡ false = above h b.high (omega (arith, ints, clamps)) in
    rw (none, first, second) refl)
    (λ same.
    let is : h ≡ int_max a.high b.high = omega (arith, ints) in
    let one : int_le h (int_max a.high b.high) ≡ true = not_above h (int_max a.high b.high) same in
    rw one (ap (λ z. first_reaching z (a ∷ b ∷ [])) (sym is)) ∙ sym (first_of_two a b h rest is))

greatest_as_one : (a b : Total) (rest : List Total) → greatest_among (greatest_among a (b ∷ [])) rest ≡ greatest_among a (b ∷ rest)
greatest_as_one a b rest =
    let high = fold int_max (int_max a.high b.high) (map (λ t. t.high) rest) in
    let most = (fold-int_max_bounds (int_max a.high b.high) (map (λ t. t.high) rest) high refl).0 in
    ap (λ (n : ℕ). let t : Total = record { number = n; low = fold int_max (int_max a.low b.low) (map (λ t. t.low) rest); high = high } in t)
    (first_as_one a b high rest most)

-- the greatest of a total alone
greatest_alone : (a : Total) → greatest_among a [] ≡ a
greatest_alone a = let yes : int_le a.high a.high ≡ true = not_above a.high a.high (omega (arith, ints)) in rw yes refl

some_is : (a b : Total) → Some a ≡ Some b → a ≡ b
some_is a b e = cc

-- the totals so far and the next one may be taken as one, whatever comes after them
pub carried : (so_far : Option Total) (next merged : Total) (rest : List Total) → greatest_of (option_to_list so_far ++ next ∷ []) ≡ Some merged →
    greatest_of (merged ∷ rest) ≡ greatest_of (option_to_list so_far ++ next ∷ rest)
carried None next merged rest e = ap (λ t. greatest_of (t ∷ rest)) (sym (some_is _ _ e) ∙ greatest_alone next)
carried (Some a) next merged rest e =
    ap (λ t. greatest_of (t ∷ rest)) (sym (some_is _ _ e)) ∙ ap Some (greatest_as_one a next rest)
