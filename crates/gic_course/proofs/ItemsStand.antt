-- Nets in which items stand as the first rows of a list say.
use Rattle.std.proofs.Common.{◌≡◌, ℕ, ◌+◌, ◌-◌, ◌≤◌, true, false, List, [], ◌∷◌, take, drop, refl, ap, sym, subst, ◌∙◌, arith, take-add}
use Rattle.std.specs.Prelude.{IsTrue}
use Rattle.gic_model.specs.declared.parts.Item.{Item}
use Rattle.gic_model.specs.declared.parts.Switching.{Switching}
use Rattle.gic_model.specs.Network.{Network}
use Rattle.gic_model.specs.Standing.{stands_after, standing_elements}
use Rattle.gic_net.specs.Switched.{has_element}
use Rattle.gic_net.specs.Net.{NetView, stands, standing, closed_net, switched_net, net_after}
use Rattle.gic_net.proofs.Switched.{decided, after_rows, standing-same}
use Rattle.gic_net.proofs.Runs.{run_is, network_stays, items_stand}
use Rattle.gic_course.specs.Switched.{closed_after}
use Rattle.gic_course.proofs.Decided.{closings, decided-append, closed_again}

-- each item that has an element does
abbrev pub ItemsStand : List Switching → ℕ → NetView → Type 0
ItemsStand rows through net = (item : Item) → IsTrue (has_element net.network item) → stands net item ≡ stands_after (take through rows) item

-- after rows, an item stands as the last of them that names it says, and as before where none does
net_decides : (net : NetView) (rows : List Switching) (item : Item) → has_element net.network item ≡ true → stands (net_after net rows) item ≡ decided (stands net item) item rows
net_decides net rows item has = ap (λ (n : NetView). stands n item) (run_is net rows) ∙ after_rows net.network net.open_items rows item has

-- the item had its element before
had : (net : NetView) (rows : List Switching) (item : Item) → has_element (net_after net rows).network item ≡ true → has_element net.network item ≡ true
had net rows item has = subst (λ (n : Network). has_element n item ≡ true) (network_stays net rows) has

-- from the first a rows to the first b
pub go_on_items : (net : NetView) (rows : List Switching) (a b : ℕ) → a ≤ b → ItemsStand rows a net → ItemsStand rows b (net_after net (take (b - a) (drop a rows)))
go_on_items net rows a b le h item has =
    let part = take (b - a) (drop a rows) in
    let old = had net part item has in
    let whole : a + (b - a) ≡ b = omega arith in
    net_decides net part item old ∙
    ap (λ s. decided s item part) (h item old) ∙
    sym (decided-append true item (take a rows) part) ∙
    ap (decided true item) (sym (take-add a (b - a) rows) ∙ ap (λ n. take n rows) whole)

closed_is : (net : NetView) (rows : List Switching) → closed_after net rows ≡ net_after net (closings rows)
closed_is net [] = refl
closed_is net (row ∷ rows) = closed_is (switched_net net row.item false) rows

-- back to the first b rows, where the first a were in force
pub go_back_items : (net : NetView) (rows : List Switching) (a b : ℕ) → ItemsStand rows a net → ItemsStand rows b (net_after (closed_after net rows) (take b rows))
go_back_items net rows a b h =
    subst (λ closed. ItemsStand rows b (net_after closed (take b rows))) (sym (closed_is net rows))
    (λ item has.
    let closed = net_after net (closings rows) in
    let now = had closed (take b rows) item has in
    let old = had net (closings rows) item now in
    net_decides closed (take b rows) item now ∙
    ap (λ s. decided s item (take b rows)) (net_decides net (closings rows) item old ∙ closed_again (stands net item) item rows a (h item old)))

-- where nothing was switched
pub all_stand : (network : Network) (rows : List Switching) → ItemsStand rows 0 (closed_net network)
all_stand network rows item has = items_stand network [] item has

-- the elements are the same
pub back_network : (net : NetView) (rows : List Switching) (b : ℕ) → (net_after (closed_after net rows) (take b rows)).network ≡ net.network
back_network net rows b =
    network_stays (closed_after net rows) (take b rows) ∙ ap (λ (n : NetView). n.network) (closed_is net rows) ∙ network_stays net (closings rows)

-- so do the elements
pub elements_so : (net : NetView) (rows : List Switching) (through : ℕ) → ItemsStand rows through net → standing net ≡ standing_elements net.network (stands_after (take through rows))
elements_so net rows through h = standing-same net.network (stands net) (stands_after (take through rows)) h
