-- What a net keeps when an item is opened or closed.
use Rattle.std.proofs.Common.{◌≡◌, ℕ, suc, ◌<◌, ◌≤◌, Bool, true, false, not, cond, nat_lt, replicate, ◌||◌, ◌==◌, List, [], ◌∷◌, length, get_or, set, arith, refl, ap, sym, ◌∙◌, subst, inl, inr, eq-eqb}
use Rattle.std.proofs.lemmas.List.{length-set, length-replicate, get_or-set_other, get_or_default}
use Rattle.std.proofs.lemmas.List.Elements.{All-from_recursion}
use Rattle.std.proofs.lemmas.List.Folds.{list_any_at}
use Rattle.std.specs.List.{filter, list_any}
use Rattle.std.proofs.lemmas.Bool.{ne_eqb}
use Rattle.std.proofs.lemmas.Bool.Decides.{nat_tests}
use Rattle.std.specs.FinSet.{insert, remove}
use Rattle.gic_base.proofs.Each.{weaker}
use Rattle.gic_model.specs.declared.parts.Element.{Element}
use Rattle.gic_model.specs.declared.parts.Item.{Item}
use Rattle.gic_model.specs.Network.{Network}
use Rattle.gic_model.specs.Limits.{IsWithinLimits}
use Rattle.gic_model.specs.Standing.{item_number}
use Rattle.gic_net.specs.Switched.{Items, has_element, switched}
use Rattle.gic_model.proofs.Members.{filter_same}
use Rattle.gic_net.specs.Net.{NetView, no_element, closed_net}
use Rattle.gic_net.specs.Row.{NodeRow, item_number_at, stands_by, AreMarked, gathered}
use Rattle.gic_net.specs.ItemIndex.{IsNextOf, IsItemIndex}
use Rattle.gic_net.specs.Rows.{node_row_at, places_from, NoneEndsAt, AreFullRows, AreGatheredFor, IsStored}
use Rattle.gic_net.specs.OpenSet.{open_set}
use Rattle.gic_net.proofs.OpenSet.{open_set-set, open_set-replicate, no_mark}
use Rattle.gic_net.proofs.Kept.{EndsAt, each_ends, filter_all}

-- each place of a row has a mark
pub marked_rows : (network : Network) (opened marks : List Bool) (first next : List ℕ) (rows : List NodeRow) → IsStored network opened first next rows → length marks ≡ length first →
    (k : ℕ) → k < length rows → AreMarked network.list marks (node_row_at rows k).all
marked_rows network opened marks first next rows stored same k h =
    let Q : ℕ → Type 0 = λ place. (place < length network.list) × (item_number_at network.list place < length marks) in
    let each = All-from_recursion Q (places_from 0 network.list k) (weaker (EndsAt network.list k) Q (λ place ends. (ends.0, let n = stored.index.numbers place ends.0 in omega arith)) (places_from 0 network.list k) (each_ends network.list k)) in
    subst (λ (r : NodeRow). AreMarked network.list marks r.all) (sym (stored.each_row k (omega (arith, stored.row_count)))) each

-- the rows after the item with this number was marked or unmarked, and its rows gathered
pub stored_after : (network : Network) (opened : List Bool) (first next : List ℕ) (rows now : List NodeRow) (number : ℕ) (opens : Bool) → IsStored network opened first next rows →
    AreGatheredFor network.list (set opened number opens) number (length network.list) rows now → IsStored network (set opened number opens) first next now
stored_after network opened first next rows now number opens stored done = record {
  limits = stored.limits;
  index = stored.index;
  mark_count = length-set opened number opens ∙ stored.mark_count;
  row_count = done.count ∙ stored.row_count;
  each_row = λ k h. elim (done.each k (omega (arith, stored.row_count))) [
    | inl e ↦ e ∙ ap (gathered network.list (set opened number opens)) (stored.each_row k h)
    | inr same ↦ same.0 ∙ stored.each_row k h ∙ ap (λ ps. record { all = places_from 0 network.list k; standing = ps }) (free k same.1)
  ];
}
  where
    free : (k : ℕ) → NoneEndsAt network.list number (length network.list) k →
        filter (stands_by network.list opened) (places_from 0 network.list k) ≡ filter (stands_by network.list (set opened number opens)) (places_from 0 network.list k)
    free k none =
        filter_same (stands_by network.list opened) (stands_by network.list (set opened number opens)) (places_from 0 network.list k)
        (weaker (EndsAt network.list k) (λ place. stands_by network.list opened place ≡ stands_by network.list (set opened number opens) place)
        (λ place ends.
        let other : item_number_at network.list place ≡ number → ⊥ = λ same. let no = sym (none place ends.0 same) ∙ ends.1 in cc in
        ap not (sym (get_or-set_other opened number (item_number_at network.list place) opens false other)))
        (places_from 0 network.list k) (each_ends network.list k))

-- whether an item has an element, by the index
none_at : {X : Type 0} (p : X → Bool) (xs : List X) (d : X) → ((i : ℕ) → i < length xs → p (get_or xs i d) ≡ false) → list_any p xs ≡ false
none_at p [] d h = refl
none_at p (x ∷ xs) d h = ap (λ b. b || list_any p xs) (h 0 (omega arith)) ∙ none_at p xs d (λ i k. h (suc i) (omega arith))

pub has_first : (list : List Element) (number place : ℕ) → IsNextOf list number 0 place → place < length list → list_any (λ e. item_number e.item == number) list ≡ true
has_first list number place is h = list_any_at (λ e. item_number e.item == number) list place no_element h (eq-eqb (item_number_at list place) number (is.is_of_item h))

pub has_none : (list : List Element) (number place : ℕ) → IsNextOf list number 0 place → length list ≤ place → list_any (λ e. item_number e.item == number) list ≡ false
has_none list number place is h = none_at (λ e. item_number e.item == number) list no_element (λ i k. ne_eqb (item_number_at list i) number (is.none_between i (omega arith) (omega arith)))

pub has_none_above : (list : List Element) (first next : List ℕ) (number : ℕ) → IsItemIndex list first next → length first ≤ number → list_any (λ e. item_number e.item == number) list ≡ false
has_none_above list first next number index h =
    none_at (λ e. item_number e.item == number) list no_element (λ i k. ne_eqb (item_number_at list i) number (λ e. let n = index.numbers i k in omega arith))

-- the open items after a switch
pub switched_set : (network : Network) (opened : List Bool) (item : Item) (opens : Bool) (number : ℕ) → number ≡ item_number item → number < length opened →
    list_any (λ e. item_number e.item == number) network.list ≡ true → open_set (set opened number opens) ≡ switched network (open_set opened) (record { time = 0; item = item; opens = opens })
switched_set network opened item opens number is h has =
    let before = open_set opened in
    let has_item : has_element network item ≡ true = ap (λ n. list_any (λ e. item_number e.item == n) network.list) (sym is) ∙ has in
    open_set-set opened number opens h ∙ ap (λ n. cond opens (insert before n) (remove before n)) is ∙
    sym (ap (λ b. cond b (cond opens (insert before (item_number item)) (remove before (item_number item))) before) has_item)

-- the same of slices that are lent
pub marked_lent : (network : Network) (opened marks : List Bool) (first next : List ℕ) (rows lent : List NodeRow) (list : List Element) → IsStored network opened first next rows → length marks ≡ length first →
    lent ≡ rows → list ≡ network.list → (k : ℕ) → k < length lent → AreMarked list marks (node_row_at lent k).all
marked_lent network opened marks first next rows lent list stored same rows_same list_same k h =
    subst (λ (l : List Element). AreMarked l marks (node_row_at lent k).all) (sym list_same)
    (subst (λ (r : List NodeRow). AreMarked network.list marks (node_row_at r k).all) (sym rows_same)
    (marked_rows network opened marks first next rows stored same k (omega (arith, ap length rows_same))))

pub stored_lent : (network : Network) (opened marks : List Bool) (first next : List ℕ) (rows lent now : List NodeRow) (list : List Element) (number : ℕ) (opens : Bool) →
    IsStored network opened first next rows → lent ≡ rows → list ≡ network.list → marks ≡ set opened number opens →
    AreGatheredFor list marks number (length list) lent now → IsStored network (set opened number opens) first next now
stored_lent network opened marks first next rows lent now list number opens stored rows_same list_same marks_same done =
    stored_after network opened first next rows now number opens stored
    (subst (λ (r : List NodeRow). AreGatheredFor network.list (set opened number opens) number (length network.list) r now) rows_same
    (subst (λ (m : List Bool). AreGatheredFor network.list m number (length network.list) lent now) marks_same
    (subst (λ (l : List Element). AreGatheredFor l marks number (length l) lent now) list_same done)))

-- whether an item has an element, as the index tells
below_test : (a b : ℕ) → nat_lt a b ≡ true → a < b
below_test a b h = grind (arith, nat_tests)

above_test : (a b : ℕ) → nat_lt a b ≡ false → b ≤ a
above_test a b h = grind (arith, nat_tests)

no_test : (a b : ℕ) → b ≤ a → nat_lt a b ≡ false
no_test a b h = grind (arith, nat_tests)

pub has_is : (list : List Element) (first next : List ℕ) (number place : ℕ) → IsItemIndex list first next → number < length first → place ≡ get_or first number place →
    nat_lt place (length list) ≡ list_any (λ e. item_number e.item == number) list
has_is list first next number place index h is = by (nat_lt place (length list)) refl
  where
    found : IsNextOf list number 0 place
    found = subst (IsNextOf list number 0) (sym (is ∙ get_or_default first number place 0 h)) (index.firsts number h)

    by : (b : Bool) → nat_lt place (length list) ≡ b → b ≡ list_any (λ e. item_number e.item == number) list
    by true below = sym (has_first list number place found (below_test place (length list) below))
    by false above = sym (has_none list number place found (above_test place (length list) above))

pub has_not : (list : List Element) (first next : List ℕ) (number count : ℕ) → IsItemIndex list first next → length first ≡ count → count ≤ number →
    nat_lt number count ≡ list_any (λ e. item_number e.item == number) list
has_not list first next number count index same h = no_test number count h ∙ sym (has_none_above list first next number index (omega arith))

-- a network by its parts
pub network_is : (network : Network) (list : List Element) (nodes : ℕ) → nodes ≡ network.nodes → list ≡ network.list → ◌≡◌ {A = Network} (record { nodes = nodes; list = list }) network
network_is network list nodes nodes_same list_same = ap (λ n. record { nodes = n; list = list }) nodes_same ∙ ap (λ l. record { nodes = network.nodes; list = l }) list_same

-- what a new net keeps
pub stored_built : (network : Network) (opened : List Bool) (first next : List ℕ) (rows : List NodeRow) (list : List Element) (nodes count : ℕ) → IsWithinLimits network → nodes ≡ network.nodes → list ≡ network.list →
    IsItemIndex list first next → count ≡ length first → opened ≡ replicate count false → AreFullRows nodes list rows → IsStored (record { nodes = nodes; list = list }) opened first next rows
stored_built network opened first next rows list nodes count limits nodes_same list_same index count_same none full = record {
  limits = subst IsWithinLimits (sym (network_is network list nodes nodes_same list_same)) limits;
  index = index;
  mark_count = ap length none ∙ length-replicate count false ∙ count_same;
  row_count = full.count;
  each_row = λ k h.
      full.each k h ∙
      ap (λ ps. record { all = places_from 0 list k; standing = ps })
      (sym (filter_all (stands_by list opened) (places_from 0 list k) (λ place. ap not (ap (λ (m : List Bool). get_or m (item_number_at list place) false) none ∙ no_mark count (item_number_at list place)))));
}

-- and what it is seen as
pub net_is : (network : Network) (opened : List Bool) (list : List Element) (nodes count : ℕ) → nodes ≡ network.nodes → list ≡ network.list → opened ≡ replicate count false →
    ◌≡◌ {A = NetView} (record { network = record { nodes = nodes; list = list }; open_items = open_set opened }) (closed_net network)
net_is network opened list nodes count nodes_same list_same none =
    ap (λ (n : Network). record { network = n; open_items = open_set opened }) (network_is network list nodes nodes_same list_same) ∙
    ap (λ (s : Items). record { network = network; open_items = s }) (ap open_set none ∙ open_set-replicate count)
