-- The case of two sites from the seed 7, worked by hand.
use Rattle.std.specs.Prelude.{ℕ, List, map, flat_map, slice_index, unwrap_or}
use Rattle.gic_case.specs.Lists.{Lists}
use Rattle.gic_case.specs.Windings.{windings_of}
use Rattle.gic_make.specs.MadeCase.{made_case}

-- that case
abbrev pub small_case : Lists
small_case = made_case 7 2

-- the grounds of a case, 0 for none
abbrev pub grounds_of : Lists → List ℕ
grounds_of case = map (λ s. unwrap_or s.ground 0) case.substations

-- the resistance of the first winding of a case
abbrev pub first_resistance_of : Lists → ℕ
first_resistance_of case = slice_index (map (λ w. w.resistance) (flat_map windings_of case.transformers)) 0

-- the buses that the lines of a case join
abbrev pub ways_of : Lists → List (ℕ × ℕ)
ways_of case = map (λ l. (l.from, l.to)) case.lines
