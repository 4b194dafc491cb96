-- The conductors of a list of elements.
use Rattle.std.proofs.Common.{◌≡◌, ℕ, ◌<◌, List, length, map, get_or, arith, ap, ◌∙◌}
use Rattle.std.proofs.lemmas.List.{get_or-map, length-map}
use Rattle.std.proofs.lemmas.List.Elements.{All-from_recursion}
use Rattle.gic_model.specs.declared.parts.Element.{Element}
use Rattle.gic_model.specs.Network.{Network}
use Rattle.gic_model.specs.Limits.{IsWithinLimits, IsElementWithin}
use Rattle.gic_net.specs.declared.conductor.Conductor.{Conductor}
use Rattle.gic_net.specs.Conductor.{conductor_of}
use Rattle.gic_net.specs.Net.{no_element}

-- each element has a resistance
pub some_ohm : (network : Network) (place : ℕ) (d : Element) → IsWithinLimits network → place < length network.list → 0 < (get_or network.list place d).micro_ohm
some_ohm network place d limits h = let within = All-from_recursion (IsElementWithin network.nodes) network.list limits.each_element place d h in omega (arith, within.least_ohm)

-- there are as many as elements, each at its element's place
pub as_many : (list : List Element) (conductors : List Conductor) → conductors ≡ map conductor_of list → length conductors ≡ length list
as_many list conductors is = ap length is ∙ length-map list conductor_of

pub conductor_at : (list : List Element) (conductors : List Conductor) (place : ℕ) (d : Conductor) → conductors ≡ map conductor_of list → place < length list → get_or conductors place d ≡ conductor_of (get_or list place no_element)
conductor_at list conductors place d is h = ap (λ (cs : List Conductor). get_or cs place d) is ∙ get_or-map conductor_of list place no_element d h
