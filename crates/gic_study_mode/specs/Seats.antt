-- The earthings of a case, one substation after another. For the contracts of the loop over them.
use Rattle.std.specs.Prelude.{ℕ, ◌+◌, List, [], ◌∷◌, is_some, if◌then◌else◌}
use Rattle.gic_case.specs.declared.item.Substation.{Substation}
use Rattle.gic_monitor.specs.declared.roster.Seat.{Seat}

-- one for each of these substations that has a ground, numbered from here on
abbrev pub seats_from : (element : ℕ) → List Substation → List Seat
seats_from element [] = []
seats_from element (s ∷ rest) =
    if is_some s.ground then record { name = s.name; element = record { 0 = element } } ∷ seats_from (element + 1) rest else seats_from element rest
