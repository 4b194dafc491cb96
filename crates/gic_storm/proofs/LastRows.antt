-- The last row that is for a zone is one of the rows.
use Rattle.std.proofs.Common.{◌≡◌, ℕ, List, [], ◌∷◌, All, reverse, find, Bool, Some, inl, inr}
use Rattle.std.proofs.lemmas.Bool.{cases_Bool}
use Rattle.std.proofs.lemmas.List.Elements.{recursion_from_All}
use Rattle.std.proofs.lemmas.List.Sorted.{All-permutation, IsPermutation-reverse}
use Rattle.std.specs.List.{AllByRecursion}
use Rattle.gic_storm.specs.StepFields.{is_for, last_for, field_in_row}
use Rattle.gic_storm.specs.StormView.{IsRow}
use Rattle.gic_induce.specs.Fields.{IsField}
use Rattle.gic_storm.specs.declared.row.StormRow.{StormRow}

-- what holds of all holds of the one that is found
found_holds : {X : Type 0} (P : X → Type 0) (test : X → Bool) (xs : List X) (x : X) → AllByRecursion P xs → find test xs ≡ Some x → P x
found_holds P test [] x all e = cc
found_holds P test (first ∷ xs) x all e =
    elim (cases_Bool (test first)) [
      | inl hit ↦ let same : first ≡ x = let f = rw hit at e in cc in rw (← same) all.0
      | inr miss ↦ found_holds P test xs x all.1 (rw miss at e)
    ]

-- so its field is within its range
pub last_within : (rows : List StormRow) (zone : ℕ) (r : StormRow) → All (λ q. IsField (field_in_row q)) rows → last_for rows zone ≡ Some r → IsField (field_in_row r)
unfolding last_for
last_within rows zone r all e =
    found_holds (λ q. IsField (field_in_row q)) (λ q. is_for q.zone zone) (reverse rows) r (recursion_from_All (λ q. IsField (field_in_row q)) (reverse rows) (All-permutation (λ q. IsField (field_in_row q)) rows (reverse rows) (IsPermutation-reverse rows) all)) e

-- the fields of sound rows are within their ranges
pub fields_within : (zones : ℕ) (rows : List StormRow) → All (IsRow zones) rows → All (λ q. IsField (field_in_row q)) rows
fields_within zones rows all k d h = let sound = all k d h in (sound.north, sound.east)
