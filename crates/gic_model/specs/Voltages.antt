-- The voltages of the elements in nanovolts, by the elements' places.
use Rattle.std.specs.Prelude.{ℕ, List, ℤ, pos, slice_index_or}

-- the number at this place of a list, 0 past its end
abbrev pub number_at : List ℤ → ℕ → ℤ
number_at numbers place = slice_index_or numbers place (pos 0)
