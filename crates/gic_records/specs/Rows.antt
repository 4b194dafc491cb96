-- The rules of the records of a text, one after another, each read after the time of the one before.
use Rattle.std.specs.Prelude.{ℕ, ◌+◌, List, [], ◌∷◌, ◌++◌, Option, Some}
use Rattle.gic_records.specs.Columns.{time_of}

-- each record keeps the rules of a record; they are numbered from here on
abbrev pub breaks_records : {E : Type 0} → (breaks : ℕ → Option ℕ → List (List ℕ) → List E) → (row : ℕ) → (before : Option ℕ) → List (List (List ℕ)) → List E
breaks_records breaks row before [] = []
breaks_records breaks row before (columns ∷ records) = breaks row before columns ++ breaks_records breaks (row + 1) (Some (time_of columns)) records
