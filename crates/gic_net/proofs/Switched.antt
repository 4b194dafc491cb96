-- Open items that rows change one by one.
use Rattle.std.proofs.Common.{◌≡◌, ℕ, Bool, true, false, cond, not, ◌&&◌, ◌||◌, ◌==◌, List, [], ◌∷◌, reverse, Option, Some, None, refl, ap, sym, ◌∙◌, eqb-true, eq-eqb}
use Rattle.std.specs.List.{find, list_any, enumerate_from}
use Rattle.std.specs.Option.{option_map_or, option_or}
use Rattle.std.specs.Ordering.{nat_cmp}
use Rattle.std.specs.FinSet.{contains, insert, remove, empty, contains-insert, contains-remove, contains-empty}
use Rattle.std.specs.Cmp.{nat_cmp_total, unsigned_tied, nat_eq_equiv}
use Rattle.std.proofs.lemmas.List.Folds.{find-append}
use mathlib.Core.List.{reverse-cons}
use Rattle.gic_base.proofs.Each.{weaker}
use Rattle.gic_model.specs.declared.parts.Item.{Item}
use Rattle.gic_model.specs.declared.parts.Switching.{Switching}
use Rattle.gic_model.specs.Network.{Network}
use Rattle.gic_model.specs.Standing.{item_number, is_item, stands_after, standing_elements}
use Rattle.gic_net.specs.Switched.{Items, has_element, stands_without, switched, switched_by}
use Rattle.gic_model.proofs.Members.{filter_same, placed, any_of_each, for_each}

-- tests that agree on the items that have an element let the same elements stand
pub standing-same : (network : Network) (f g : Item → Bool) → ((item : Item) → has_element network item ≡ true → f item ≡ g item) → standing_elements network f ≡ standing_elements network g
standing-same network f g same =
    filter_same (λ p. f p.1.item) (λ p. g p.1.item) (enumerate_from 0 network.list)
    (placed (λ e. f e.item ≡ g e.item) 0 network.list
    (weaker (λ e. (m : ℕ) → (item_number e.item == m) ≡ true → list_any (λ x. item_number x.item == m) network.list ≡ true) (λ e. f e.item ≡ g e.item)
    (λ e has. same e.item (has (item_number e.item) (eq-eqb (item_number e.item) (item_number e.item) refl)))
    network.list
    (for_each (λ m e. (item_number e.item == m) ≡ true → list_any (λ x. item_number x.item == m) network.list ≡ true) network.list (λ m. any_of_each (λ x. item_number x.item == m) network.list))))

module _ (network : Network) (opened : Items) (row : Switching) (item : Item) (has : has_element network item ≡ true) where
  inserted : contains (insert opened (item_number row.item)) (item_number item) ≡ (is_item row.item item || contains opened (item_number item))
  inserted = contains-insert nat_cmp_total opened (item_number row.item) (item_number item) ∙ ap (λ b. b || contains opened (item_number item)) (unsigned_tied (item_number item) (item_number row.item) ∙ nat_eq_equiv.symm (item_number item) (item_number row.item))

  removed : contains (remove opened (item_number row.item)) (item_number item) ≡ (not (is_item row.item item) && contains opened (item_number item))
  removed = contains-remove nat_cmp_total opened (item_number row.item) (item_number item) ∙ ap (λ b. not b && contains opened (item_number item)) (unsigned_tied (item_number item) (item_number row.item) ∙ nat_eq_equiv.symm (item_number item) (item_number row.item))

  with_element : (opens same : Bool) → is_item row.item item ≡ same →
      not (contains (cond opens (insert opened (item_number row.item)) (remove opened (item_number row.item))) (item_number item)) ≡ cond same (not opens) (stands_without opened item)
  with_element true true is = ap not (inserted ∙ ap (λ b. b || contains opened (item_number item)) is)
  with_element true false is = ap not (inserted ∙ ap (λ b. b || contains opened (item_number item)) is)
  with_element false true is = ap not (removed ∙ ap (λ b. not b && contains opened (item_number item)) is)
  with_element false false is = ap not (removed ∙ ap (λ b. not b && contains opened (item_number item)) is)

  without : has_element network row.item ≡ false → (same : Bool) → is_item row.item item ≡ same → stands_without opened item ≡ cond same (not row.opens) (stands_without opened item)
  without lacks true is = absurd (no_way (sym has ∙ ap (λ k. list_any (λ e. item_number e.item == k) network.list) (sym (eqb-true (item_number row.item) (item_number item) is)) ∙ lacks))
    where
      no_way : true ≡ false → ⊥
      no_way e = cc
  without lacks false is = refl

  -- what one row does
  pub one_row : stands_without (switched network opened row) item ≡ cond (is_item row.item item) (not row.opens) (stands_without opened item)
  one_row = by (has_element network row.item) refl
    where
      by : (b : Bool) → has_element network row.item ≡ b →
          not (contains (cond b (cond row.opens (insert opened (item_number row.item)) (remove opened (item_number row.item))) opened) (item_number item)) ≡ cond (is_item row.item item) (not row.opens) (stands_without opened item)
      by true is = with_element row.opens (is_item row.item item) refl
      by false is = without is (is_item row.item item) refl

-- the last row of an item, or the answer before
abbrev pub decided : Bool → Item → List Switching → Bool
decided before item rows = option_map_or (λ row. not row.opens) (find (λ row. is_item row.item item) (reverse rows)) before

option_last : (o : Option Switching) (row : Switching) (same before : Bool) →
    option_map_or (λ r. not r.opens) (option_or o (cond same (Some row) None)) before ≡ option_map_or (λ r. not r.opens) o (cond same (not row.opens) before)
option_last (Some r) row same before = refl
option_last None row true before = refl
option_last None row false before = refl

pub decided-cons : (before : Bool) (item : Item) (row : Switching) (rows : List Switching) → decided before item (row ∷ rows) ≡ decided (cond (is_item row.item item) (not row.opens) before) item rows
decided-cons before item row rows =
    ap (λ ys. option_map_or (λ r. not r.opens) (find (λ r. is_item r.item item) ys) before) (reverse-cons row rows) ∙
    ap (λ o. option_map_or (λ r. not r.opens) o before) (find-append (λ r. is_item r.item item) (reverse rows) (row ∷ [])) ∙
    option_last (find (λ r. is_item r.item item) (reverse rows)) row (is_item row.item item) before

-- after rows, an item that has an element stands as its last row says
pub after_rows : (network : Network) (opened : Items) (rows : List Switching) (item : Item) → has_element network item ≡ true →
    stands_without (switched_by network opened rows) item ≡ decided (stands_without opened item) item rows
after_rows network opened [] item has = refl
after_rows network opened (row ∷ rows) item has =
    after_rows network (switched network opened row) rows item has ∙ ap (λ b. decided b item rows) (one_row network opened row item has) ∙ sym (decided-cons (stands_without opened item) item row rows)

pub items_by_row : (network : Network) (rows : List Switching) (item : Item) → has_element network item ≡ true →
    stands_without (switched_by network empty rows) item ≡ stands_after rows item
items_by_row network rows item has = after_rows network empty rows item has ∙ ap (λ b. decided (not b) item rows) (contains-empty nat_cmp (item_number item))

pub row_by_row : (network : Network) (rows : List Switching) → standing_elements network (stands_without (switched_by network empty rows)) ≡ standing_elements network (stands_after rows)
row_by_row network rows =
    standing-same network (stands_without (switched_by network empty rows)) (stands_after rows) (items_by_row network rows)
