-- One pass over the records answers the first refusal of all rules.
use Rattle.std.proofs.Common.{◌≡◌, ℕ, ◌+◌, nat_le, List, [], ◌∷◌, ◌++◌, map, Option, Some, Result, refl, append_assoc}
use Rattle.gic_base.specs.Refusals.{unless, settle}
use Rattle.gic_base.proofs.RefusalLaws.{then_law, last_law, test_law}
use Rattle.gic_records.specs.Columns.{time_of}
use Rattle.gic_records.specs.RowPass.{rows_in}
use Rattle.gic_records.specs.Rows.{breaks_records}

-- the rules of a record, and that it isn't one too many
abbrev pub with_limit : {E : Type 0} → ℕ → E → (ℕ → Option ℕ → List (List ℕ) → List E) → ℕ → Option ℕ → List (List ℕ) → List E
with_limit most late breaks row before columns = unless (nat_le row most) late ++ breaks row before columns

module _ {A E : Type 0} (read : ℕ → Option ℕ → List (List ℕ) → Result A E) (time : A → ℕ) (most : ℕ) (late : E)
    (breaks : ℕ → Option ℕ → List (List ℕ) → List E) (of : List (List ℕ) → A)
    (row_law : (row : ℕ) (before : Option ℕ) (columns : List (List ℕ)) → read row before columns ≡ settle (breaks row before columns) (of columns))
    (time_law : (columns : List (List ℕ)) → time (of columns) ≡ time_of columns) where
  -- all records
  pub rows_law : (row : ℕ) (before : Option ℕ) (records : List (List (List ℕ)))
      → rows_in read time most late row before records ≡ settle (breaks_records (with_limit most late breaks) row before records) (map of records)
  unfolding rows_in
  rows_law row before [] = refl
  rows_law row before (columns ∷ records) =
      let more = breaks_records (with_limit most late breaks) (row + 1) (Some (time_of columns)) records in
      let rest : rows_in read time most late (row + 1) (Some (time (of columns))) records ≡ settle more (map of records) = rw (time_law columns) (rows_law (row + 1) (Some (time_of columns)) records) in
      rw (append_assoc (unless (nat_le row most) late) (breaks row before columns) more)
      (then_law _ _ _ _ _ _ (test_law (nat_le row most) late)
      (then_law _ _ _ _ _ _ (row_law row before columns)
      (last_law _ _ _ (λ ys. of columns ∷ ys) rest)))
