-- Names that are one, names that come twice, and the places of names.
use Rattle.std.specs.Prelude.{ℕ, ◌+◌, List, [], ◌∷◌, take, slice_index_or, Bool, if◌then◌else◌, Option, Some, None, nat_eq}
use Rattle.std.specs.Cmp.Lexicographic.{pointwise}
use Rattle.std.specs.List.{list_any}

-- the two texts are one
abbrev pub same : List ℕ → List ℕ → Bool
same = pointwise nat_eq

-- the name at the place stands before it too
abbrev pub is_repeat : List (List ℕ) → ℕ → Bool
is_repeat names i = list_any (same (slice_index_or names i [])) (take i names)

-- the first place of the name, counted from here on
abbrev pub place_from : ℕ → List (List ℕ) → List ℕ → Option ℕ
place_from n [] q = None
place_from n (x ∷ xs) q = if same q x then Some n else place_from (n + 1) xs q

-- the first place of the name, from 0
abbrev pub place_in : List (List ℕ) → List ℕ → Option ℕ
place_in = place_from 0
