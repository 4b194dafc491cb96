-- Runs of switches.
use Rattle.std.proofs.Common.{◌≡◌, true, List, [], ◌∷◌, refl, ap, ◌∙◌}
use Rattle.gic_model.specs.declared.parts.Item.{Item}
use Rattle.gic_model.specs.declared.parts.Switching.{Switching}
use Rattle.gic_model.specs.Network.{Network}
use Rattle.gic_model.specs.Standing.{standing_elements, stands_after}
use Rattle.gic_net.specs.Switched.{has_element, switched_by}
use Rattle.gic_net.proofs.Switched.{items_by_row, row_by_row}
use Rattle.gic_net.specs.Net.{NetView, stands, standing, closed_net, switched_net, net_after}

-- a run changes the open items alone, as the rows do one by one
pub run_is : (net : NetView) (rows : List Switching) → net_after net rows ≡ record { network = net.network; open_items = switched_by net.network net.open_items rows }
run_is net [] = refl
run_is net (row ∷ rows) = run_is (switched_net net row.item row.opens) rows

pub network_stays : (net : NetView) (rows : List Switching) → (net_after net rows).network ≡ net.network
network_stays net rows = ap (λ (n : NetView). n.network) (run_is net rows)

pub items_stand : (network : Network) (rows : List Switching) (item : Item) → has_element network item ≡ true → stands (net_after (closed_net network) rows) item ≡ stands_after rows item
items_stand network rows item has = ap (λ (n : NetView). stands n item) (run_is (closed_net network) rows) ∙ items_by_row network rows item has

pub elements_stand : (network : Network) (rows : List Switching) → standing (net_after (closed_net network) rows) ≡ standing_elements network (stands_after rows)
elements_stand network rows = ap standing (run_is (closed_net network) rows) ∙ row_by_row network rows
