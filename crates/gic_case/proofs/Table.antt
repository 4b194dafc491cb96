-- What the rows of the table keep.
use Rattle.std.proofs.Common.{◌≡◌, ℕ, ◌≤◌, nat_le, List, [], ◌∷◌, Bool, Some, find, arith, inl, inr}
use Rattle.std.proofs.lemmas.Bool.{cases_Bool}
use Rattle.std.specs.List.{AllByRecursion}
use Rattle.gic_case.specs.Alpha.{latitude_table, latitude_row}

-- a scaling is from 1 to 10 tenths
pub record IsTenths (row : ℕ × ℕ) : Type 0 where
  pub least : 1 ≤ row.1
  pub most : row.1 ≤ 10

-- what holds of all holds of the one that is found
found_holds : (test : ℕ × ℕ → Bool) (rows : List (ℕ × ℕ)) (row : ℕ × ℕ) → AllByRecursion IsTenths rows → find test rows ≡ Some row → IsTenths row
found_holds test [] row all e = cc
found_holds test (first ∷ rows) row all e =
    elim (cases_Bool (test first)) [
      | inl hit ↦ let same : first ≡ row = let f = rw hit at e in cc in rw (← same) all.0
      | inr miss ↦ found_holds test rows row all.1 (rw miss at e)
    ]

tenths : (degrees n : ℕ) → 1 ≤ n → n ≤ 10 → IsTenths (degrees, n)
tenths degrees n least most = record { least = least; most = most }

all_tenths : AllByRecursion IsTenths latitude_table
all_tenths = (
  tenths 4000 1 (omega arith) (omega arith),
  (
    tenths 4500 2 (omega arith) (omega arith),
    (
      tenths 5000 3 (omega arith) (omega arith),
      (
        tenths 5400 5 (omega arith) (omega arith),
        (
          tenths 5600 6 (omega arith) (omega arith),
          (
            tenths 5700 7 (omega arith) (omega arith),
            (tenths 5800 8 (omega arith) (omega arith), (tenths 5900 9 (omega arith) (omega arith), (tenths 6000 10 (omega arith) (omega arith), tt))),
          ),
        ),
      ),
    ),
  ),
)

pub row_tenths : (latitude : ℕ) (row : ℕ × ℕ) → latitude_row latitude ≡ Some row → IsTenths row
unfolding latitude_row
row_tenths latitude row e = found_holds (λ r. nat_le latitude r.0) latitude_table row all_tenths e
