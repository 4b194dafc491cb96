-- Lines that several reports have.
use Rattle.std.specs.Prelude.{ℤ, List, ℕ, [], ◌∷◌, codes, decimal}
use Rattle.std.specs.Fmt.{signed_decimal}

-- the words of a line
abbrev pub Words : Type 0
Words = List (List ℕ)

-- a line of one word
abbrev pub word_line : List ℕ → Words
word_line word = word ∷ []

-- the line of a uniform field, in mV/km
abbrev pub field_line : ℤ → ℤ → Words
field_line north east = codes "north" ∷ signed_decimal north ∷ codes "east" ∷ signed_decimal east ∷ []

-- the line of how many nodes and elements there are
abbrev pub sizes_line : (nodes elements : ℕ) → Words
sizes_line nodes elements = codes "nodes" ∷ decimal nodes ∷ codes "elements" ∷ decimal elements ∷ []
