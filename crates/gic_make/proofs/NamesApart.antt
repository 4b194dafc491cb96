-- No name of a made case comes twice.
use Rattle.std.proofs.Common.{◌≡◌, ℕ, zero, suc, ◌+◌, ◌<◌, ◌≤◌, ◌^◌, List, [], ◌∷◌, ◌++◌, map, decimal, ap, arith}
use Rattle.std.specs.Prelude.{◌≢◌, AllPairs}
use Rattle.std.proofs.lemmas.Fmt.{decimal_injective}
use Rattle.std.proofs.lemmas.List.Elements.{All-from_recursion}
use Rattle.std.proofs.lemmas.List.Kept.{AllPairs-cons}
use Rattle.std.specs.List.{AllByRecursion, range_with_len}
use Rattle.gic_base.proofs.Each.{all_joined, weaker}
use Rattle.gic_make.specs.MadeCase.{numbered}
use Rattle.gic_make.proofs.Sites.{each_site}

-- no name of the list stands before it too
abbrev pub AreApart : List (List ℕ) → Type 0
AreApart [] = Unit {0}
AreApart (x ∷ xs) = AllByRecursion (λ y. x ≢ y) xs × AreApart xs

pub pairs_differ : (xs : List (List ℕ)) → AreApart xs → AllPairs (λ x y. x ≢ y) xs
pairs_differ [] apart = λ i j d first second. absurd (omega arith)
pairs_differ (x ∷ xs) apart = AllPairs-cons (λ x y. x ≢ y) x xs (All-from_recursion (λ y. x ≢ y) xs apart.0) (pairs_differ xs apart.1)

-- the first byte of a name
abbrev letter_of : List ℕ → ℕ
letter_of [] = 0
letter_of (b ∷ bs) = b

-- a name of another letter
abbrev pub HasOtherLetter : ℕ → List ℕ → Type 0
HasOtherLetter letter name = letter ≢ letter_of name

pub other_letter : (letter : ℕ) (bs name : List ℕ) → HasOtherLetter letter name → (letter ∷ bs) ≢ name
other_letter letter bs name other same = other (ap letter_of same)

-- names of one letter
abbrev pub names_by : (letter from sites : ℕ) → List (List ℕ)
names_by letter from sites = map (numbered letter) (range_with_len from sites)

pub other_letters : (letter other from sites : ℕ) → letter ≢ other → AllByRecursion (HasOtherLetter letter) (names_by other from sites)
other_letters letter other from sites differ = each_site (HasOtherLetter letter) (numbered other) from sites (λ i low high. differ)

number_of : (a b : ℕ) (xs ys : List ℕ) → (a ∷ xs) ≡ (b ∷ ys) → xs ≡ ys
number_of a b xs ys same = cc

numbers_differ : (letter i j : ℕ) → i < j → j < 2 ^ 64 → numbered letter i ≢ numbered letter j
numbers_differ letter i j less small same =
    let one = decimal_injective i j (omega arith) small (number_of letter letter (decimal i) (decimal j) same) in
    omega arith

-- the names of one letter, in front of names of other letters
pub apart_before : (letter from sites : ℕ) (names : List (List ℕ)) → from + sites ≤ 2 ^ 32 → AllByRecursion (HasOtherLetter letter) names → AreApart names → AreApart (names_by letter from sites ++ names)
apart_before letter from zero names small others apart = apart
apart_before letter from (suc sites) names small others apart = (
  all_joined (λ y. numbered letter from ≢ y) (names_by letter (from + 1) sites) names
      (each_site (λ y. numbered letter from ≢ y) (numbered letter) (from + 1) sites (λ i low high. numbers_differ letter from i (omega arith) (omega arith)))
      (weaker (HasOtherLetter letter) (λ y. numbered letter from ≢ y) (λ y other. other_letter letter (decimal from) y other) names others),
  apart_before letter (from + 1) sites names (omega arith) others apart,
)
