-- What the theorem says of outages.
use Rattle.std.specs.Prelude.{◌≡◌, ◌++◌, ◌∷◌, ◌&&◌, [], not, false, List, IsFalse}
use Rattle.gic_model.specs.declared.parts.Item.{Item}
use Rattle.gic_model.specs.declared.parts.Switching.{Switching}
use Rattle.gic_model.specs.Network.{Network}
use Rattle.gic_model.specs.Standing.{standing_elements, stands_after}
use Rattle.gic_net.specs.Switched.{has_element}
use Rattle.gic_net.specs.Net.{NetView, stands, standing, switched_net}
use Rattle.gic_outage.specs.Removing.{is_idle, others, opening}
use Rattle.gic_outage.specs.NetWithout.{net_without}

-- an item is idle exactly where it has no element or is open
abbrev pub IdleWhereNotStanding : Type 0
IdleWhereNotStanding = (net : NetView) (item : Item) → is_idle (standing net) item ≡ not (has_element net.network item && stands net item)

-- without the item the other elements stand as before
abbrev pub OthersStandAsBefore : Type 0
OthersStandAsBefore = (net : NetView) (item : Item) → standing (net_without net item) ≡ others item (standing net)

-- an item that isn't idle, taken out and brought back, leaves the net as it was
abbrev pub ComesBack : Type 0
ComesBack = (net : NetView) (item : Item) → IsFalse (is_idle (standing net) item) → switched_net (net_without net item) item false ≡ net

-- the other elements are those that stand where a last row opens the item
abbrev pub IsLastRow : Type 0
IsLastRow = (network : Network) (rows : List Switching) (item : Item) →
    others item (standing_elements network (stands_after rows)) ≡ standing_elements network (stands_after (rows ++ opening item ∷ []))
