-- A switch of what is so already changes nothing.
use Rattle.std.proofs.Common.{◌≡◌, ◌==◌, ℕ, Bool, true, false, not, ◌||◌, ◌&&◌, cond, refl, ap, sym, ◌∙◌, eq-eqb, inl, inr, List, [], ◌∷◌, subst, get_or}
use Rattle.std.proofs.lemmas.Bool.{cases_eq, ne_eqb, false≢true}
use Rattle.std.specs.List.{list_any}
use Rattle.std.specs.FinSet.{contains, insert, remove, contains-insert, contains-remove, same_set, nat_cmp-IsAntisymmetric}
use Rattle.std.specs.Cmp.{nat_cmp_total, unsigned_tied}
use Rattle.gic_model.specs.declared.parts.Item.{Item}
use Rattle.gic_model.specs.Standing.{item_number}
use Rattle.gic_net.specs.Switched.{Items, has_element}
use Rattle.gic_model.specs.declared.parts.Switching.{Switching}
use Rattle.gic_model.specs.Network.{Network}
use Rattle.gic_net.specs.OpenSet.{open_set}
use Rattle.gic_net.specs.Net.{NetView, stands, is_switched, switched_net, net_after}
use Rattle.gic_net.proofs.OpenSet.{stands_unmarked}

-- to open an open item
inserted : (before : Items) (n : ℕ) → contains before n ≡ true → insert before n ≡ before
inserted before n has =
    same_set nat_cmp_total nat_cmp-IsAntisymmetric (insert before n) before
    (λ q. contains-insert nat_cmp_total before n q ∙ ap (λ b. b || contains before q) (unsigned_tied q n) ∙ elim (cases_eq q n) [
      | inl e ↦ ap (λ b. b || contains before q) (eq-eqb q n e) ∙ sym (ap (contains before) e ∙ has)
      | inr other ↦ ap (λ b. b || contains before q) (ne_eqb q n other)
    ])

-- to close a closed one
removed : (before : Items) (n : ℕ) → contains before n ≡ false → remove before n ≡ before
removed before n none =
    same_set nat_cmp_total nat_cmp-IsAntisymmetric (remove before n) before
    (λ q. contains-remove nat_cmp_total before n q ∙ ap (λ b. not b && contains before q) (unsigned_tied q n) ∙ elim (cases_eq q n) [
      | inl e ↦ ap (λ b. not b && contains before q) (eq-eqb q n e) ∙ sym (ap (contains before) e ∙ none)
      | inr other ↦ ap (λ b. not b && contains before q) (ne_eqb q n other)
    ])

by_cases : (has opened opens : Bool) (before : Items) (n : ℕ) → contains before n ≡ opened → (not has || cond (not opened) (not opens) opens) ≡ true →
    cond has (cond opens (insert before n) (remove before n)) before ≡ before
by_cases false opened opens before n is so = refl
by_cases true true true before n is so = inserted before n is
by_cases true true false before n is so = absurd (false≢true so)
by_cases true false true before n is so = absurd (false≢true so)
by_cases true false false before n is so = removed before n is

-- so the net stays
pub already : (net : NetView) (item : Item) (opens : Bool) → is_switched net item opens ≡ true → switched_net net item opens ≡ net
already net item opens so =
    ap (λ (s : Items). record net { open_items = s })
    (by_cases (has_element net.network item) (contains net.open_items (item_number item)) opens net.open_items (item_number item) refl so)

or_false : (a b : Bool) → (a || b) ≡ false → (a ≡ false) × (b ≡ false)
or_false false b h = (refl, h)
or_false true b h = absurd (false≢true (sym h))

not_false : (b : Bool) → not b ≡ false → b ≡ true
not_false true h = refl
not_false false h = absurd (false≢true (sym h))

-- rows that all say what is so already
pub all_already : (net : NetView) (rows : List Switching) → list_any (λ row. not (is_switched net row.item row.opens)) rows ≡ false → net_after net rows ≡ net
all_already net [] h = refl
all_already net (row ∷ rows) h =
    let both = or_false (not (is_switched net row.item row.opens)) (list_any (λ r. not (is_switched net r.item r.opens)) rows) h in
    subst (λ n. net_after n rows ≡ net) (sym (already net row.item row.opens (not_false _ both.0))) (all_already net rows both.1)

turned : (m opens : Bool) → cond (not m) (not opens) opens ≡ cond m opens (not opens)
turned true opens = refl
turned false opens = refl

-- by the mark of the item
pub by_mark : (network : Network) (opened : List Bool) (item : Item) (opens has mark m : Bool) (number : ℕ) → number ≡ item_number item → has ≡ list_any (λ e. item_number e.item == number) network.list →
    has ≡ true → get_or opened number false ≡ mark → mark ≡ m → is_switched (record { network = network; open_items = open_set opened }) item opens ≡ cond m opens (not opens)
by_mark network opened item opens has mark m number is has_is so read marked =
    let net : NetView = record { network = network; open_items = open_set opened } in
    let has_item : has_element network item ≡ true = ap (λ n. list_any (λ e. item_number e.item == n) network.list) (sym is) ∙ sym has_is ∙ so in
    let at : get_or opened (item_number item) false ≡ m = ap (λ n. get_or opened n false) (sym is) ∙ read ∙ marked in
    ap (λ h. not h || cond (stands net item) (not opens) opens) has_item ∙ ap (λ s. cond s (not opens) opens) (stands_unmarked opened item ∙ ap not at) ∙ turned m opens
