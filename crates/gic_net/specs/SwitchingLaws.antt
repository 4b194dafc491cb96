-- What the theorem says of nets that are switched row by row.
use Rattle.std.specs.Prelude.{◌≡◌, List, IsTrue}
use Rattle.gic_model.specs.declared.parts.Item.{Item}
use Rattle.gic_model.specs.declared.parts.Switching.{Switching}
use Rattle.gic_model.specs.Network.{Network}
use Rattle.gic_model.specs.Standing.{standing_elements, stands_after}
use Rattle.gic_net.specs.Switched.{has_element}
use Rattle.gic_net.specs.Net.{NetView, stands, standing, closed_net, net_after}

-- the elements stay
abbrev pub NetworkStays : Type 0
NetworkStays = (net : NetView) (rows : List Switching) → (net_after net rows).network ≡ net.network

-- an item that has an element stands as reading all the rows at once says
abbrev pub ItemsStandAsRowsSay : Type 0
ItemsStandAsRowsSay = (network : Network) (rows : List Switching) (item : Item) → IsTrue (has_element network item) →
    stands (net_after (closed_net network) rows) item ≡ stands_after rows item

-- so do the elements
abbrev pub ElementsStandAsRowsSay : Type 0
ElementsStandAsRowsSay = (network : Network) (rows : List Switching) →
    standing (net_after (closed_net network) rows) ≡ standing_elements network (stands_after rows)
