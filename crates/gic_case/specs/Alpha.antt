-- The scaling of a field by geomagnetic latitude.
use Rattle.std.specs.Prelude.{ℕ, nat_le, List, [], ◌∷◌, Option, find}
use Rattle.std.specs.Option.{option_map_or}

-- latitudes in hundredths of a degree, each with the scaling in tenths; the rows are set after attachment 1 of NERC TPL-007 and are this project's own
abbrev pub latitude_table : List (ℕ × ℕ)
latitude_table =
    (4000, 1) ∷ (4500, 2) ∷ (5000, 3) ∷ (5400, 5) ∷ (5600, 6) ∷ (5700, 7) ∷ (5800, 8) ∷ (5900, 9) ∷ (6000, 10) ∷ []

-- the first row whose latitude is at least the given one
unfoldable pub latitude_row : ℕ → Option (ℕ × ℕ)
latitude_row latitude = find (λ row. nat_le latitude row.0) latitude_table

-- the scaling of that row, and 10 if there is none
abbrev pub alpha_of : ℕ → ℕ
alpha_of latitude = option_map_or (λ row. row.1) (latitude_row latitude) 10
