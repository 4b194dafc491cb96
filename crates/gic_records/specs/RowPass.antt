-- What one pass over the records reads, up to the first refusal. It serves the readers of rows: their contracts speak of rules.
use Rattle.std.specs.Prelude.{ℕ, ◌+◌, nat_le, List, [], ◌∷◌, Option, Some, Result, Ok}
use Rattle.gic_base.specs.Passes.{◌>>=◌, test}

-- the rows that the records are, numbered from here on, where a record is read so, a row has such a time, and a row past the most is refused so
unfoldable pub rows_in : {A E : Type 0} → (read : ℕ → Option ℕ → List (List ℕ) → Result A E) → (time : A → ℕ) → (most : ℕ) → (late : E) → (row : ℕ) → (before : Option ℕ) → List (List (List ℕ)) → Result (List A) E
rows_in read time most late row before [] = Ok []
rows_in read time most late row before (columns ∷ records) =
    test (nat_le row most) late
    >>= (λ few. read row before columns
    >>= (λ x. rows_in read time most late (row + 1) (Some (time x)) records
    >>= (λ xs. Ok (x ∷ xs))))
