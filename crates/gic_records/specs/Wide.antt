-- How far the records of a text are read. Storms and switchings refuse a record with more than `MOST_COLUMNS` fields, so what follows it changes nothing: their crates prove that.
use Rattle.std.specs.Prelude.{ℕ, nat_le, ◌+◌, List, [], ◌∷◌, length, take, if◌then◌else◌}
use Rattle.gic_records.specs.declared.prefix.TheConstants.{MOST_COLUMNS}

-- the records up to the first with more than `MOST_COLUMNS` fields; of that one, one field more than these
abbrev pub up_to_wide : List (List (List ℕ)) → List (List (List ℕ))
up_to_wide [] = []
up_to_wide (fields ∷ records) =
    if nat_le (length fields) MOST_COLUMNS then fields ∷ up_to_wide records else take (MOST_COLUMNS + 1) fields ∷ []
