-- What is left of the earthings, numbered from a node on.
use Rattle.std.specs.Prelude.{ℕ, List, [], ◌∷◌, flat_map, if◌then◌else◌, is_some}
use Rattle.std.specs.List.{enumerate_from}
use Rattle.gic_case.specs.declared.item.Substation.{Substation}

-- the nodes of these substations, numbered from here on, at which an earthing ends
abbrev pub earthing_ends_from : (node : ℕ) → List Substation → List ℕ
earthing_ends_from node substations = flat_map (λ p. if is_some p.1.ground then p.0 ∷ [] else []) (enumerate_from node substations)
