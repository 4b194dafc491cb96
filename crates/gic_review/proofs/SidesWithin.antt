-- The sides of the transformers of a sound case are at its buses.
use Rattle.std.proofs.Common.{ℕ, ◌<◌, List, [], ◌∷◌, length, All}
use Rattle.std.specs.List.{AllByRecursion, flat_map}
use Rattle.std.proofs.lemmas.List.Elements.{All-from_recursion, recursion_from_All}
use Rattle.gic_case.specs.declared.winding.Winding.{Winding}
use Rattle.gic_case.specs.Lists.{Lists}
use Rattle.gic_case.specs.Windings.{windings_of}
use Rattle.gic_case.specs.Sound.{IsSound, IsSoundWinding, IsSoundTransformer}
use Rattle.gic_winding.proofs.Within.{all_of_parts}
use Rattle.gic_review.specs.declared.findings.sides.RatedSide.{RatedSide}
use Rattle.gic_review.specs.Sides.{sides_by, rated_sides_of}

abbrev pub IsAtBus : Lists → RatedSide → Type 0
IsAtBus c s = s.bus < length c.buses

windings_at_buses : (c : Lists) (name : List ℕ) (volts : ℕ) (ws : List Winding) → AllByRecursion (IsSoundWinding c volts) ws → AllByRecursion (IsAtBus c) (sides_by name ws)
windings_at_buses c name volts [] h = tt
windings_at_buses c name volts (w ∷ ws) h = (h.0.bus_within, windings_at_buses c name volts ws h.1)

pub sides_within : (c : Lists) → IsSound c → All (IsAtBus c) (flat_map rated_sides_of c.transformers)
sides_within c sound =
    All-from_recursion (IsAtBus c) (flat_map rated_sides_of c.transformers)
    (all_of_parts (IsSoundTransformer c) (IsAtBus c) rated_sides_of (λ t h. windings_at_buses c t.name t.high_volts (windings_of t) (recursion_from_All (IsSoundWinding c t.high_volts) (windings_of t) h.windings_sound)) c.transformers (recursion_from_All (IsSoundTransformer c) c.transformers sound.transformers_sound))
