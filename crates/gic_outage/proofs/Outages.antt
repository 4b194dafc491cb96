-- Taking an item out of a network, and bringing it back.
use Rattle.std.proofs.Common.{◌≡◌, ℕ, ◌+◌, ◌<◌, ◌==◌, Bool, true, false, cond, not, ◌&&◌, ◌||◌, nat_eq, List, [], ◌∷◌, ◌++◌, length, refl, sym, ap, ◌∙◌, eqb-true, eq-eqb, arith, IsTrue, IsFalse}
use Rattle.std.specs.List.{filter, list_any, enumerate_from, AllByRecursion}
use Rattle.std.proofs.lemmas.List.Folds.{list_any_at}
use Rattle.std.specs.FinSet.{contains, insert, remove, contains-insert, contains-remove, same_set, nat_cmp-IsAntisymmetric}
use Rattle.std.specs.Cmp.{nat_cmp_total, unsigned_tied, nat_eq_equiv}
use Rattle.gic_base.proofs.Each.{weaker}
use Rattle.gic_model.specs.declared.parts.Element.{Element}
use Rattle.gic_model.specs.declared.parts.Item.{Item}
use Rattle.gic_model.specs.declared.parts.Switching.{Switching}
use Rattle.gic_model.specs.Network.{Network}
use Rattle.gic_model.specs.Standing.{item_number, is_item, standing_elements, stands_after}
use Rattle.gic_model.specs.Sums.{Placed}
use Rattle.gic_model.proofs.LastRow.{last_row}
use Rattle.gic_model.proofs.Members.{placed, any_of_each, for_each}
use Rattle.gic_net.specs.Switched.{Items, has_element}
use Rattle.gic_net.specs.Net.{NetView, stands, standing, element_of, no_element, switched_net}
use Rattle.gic_net.proofs.Switched.{one_row}
use Rattle.gic_outage.specs.Removing.{is_idle, others, opening}
use Rattle.gic_outage.specs.NetWithout.{net_without}

no_way : {C : Type 0} → true ≡ false → C
no_way e = absurd (grind (arith, e))

and_false : (b : Bool) → (b && false) ≡ false
and_false true = refl
and_false false = refl

-- an element of this item is among those that stand where there is one, and the item stands
module _ (up : ℕ → Bool) (n : ℕ) where
  abbrev among : List Placed → Bool
  among elements = list_any (λ p. item_number p.1.item == n) elements

  abbrev has : List Element → Bool
  has es = list_any (λ e. item_number e.item == n) es

  abbrev standing_from : ℕ → List Element → List Placed
  standing_from i es = filter (λ p. up (item_number p.1.item)) (enumerate_from i es)

  any_among : (i : ℕ) (es : List Element) → among (standing_from i es) ≡ (has es && up n)
  any_among i [] = refl
  any_among i (e ∷ es) = by (any_among (i + 1) es) (up (item_number e.item)) refl (item_number e.item == n) refl
    where
      up_too : (b : Bool) → up (item_number e.item) ≡ b → (item_number e.item == n) ≡ true → up n ≡ b
      up_too b is same = sym (ap up (eqb-true (item_number e.item) n same)) ∙ is

      by : among (standing_from (i + 1) es) ≡ (has es && up n) → (a : Bool) → up (item_number e.item) ≡ a → (b : Bool) → (item_number e.item == n) ≡ b →
          among (cond a ((i, e) ∷ standing_from (i + 1) es) (standing_from (i + 1) es)) ≡ ((b || has es) && up n)
      by later true is true same = ap (λ b. b || among (standing_from (i + 1) es)) same ∙ sym (up_too true is same)
      by later true is false other = ap (λ b. b || among (standing_from (i + 1) es)) other ∙ later
      by later false is true same = later ∙ ap (λ b. has es && b) (up_too false is same) ∙ and_false (has es) ∙ sym (up_too false is same)
      by later false is false other = later

-- an item is idle where it has no element or is open
pub idle_is : (net : NetView) (item : Item) → is_idle (standing net) item ≡ not (has_element net.network item && stands net item)
idle_is net item = ap not (any_among (λ m. not (contains net.open_items m)) (item_number item) 0 net.network.list)

-- where an element of the item is known, it decides
pub idle_by_element : (net : NetView) (item : Item) (place : ℕ) → place < length net.network.list → IsTrue (is_item (element_of net.network place).item item) →
    not (stands net (element_of net.network place).item) ≡ is_idle (standing net) item
idle_by_element net item place within same =
    ap (λ m. not (not (contains net.open_items m))) (eqb-true (item_number (element_of net.network place).item) (item_number item) same) ∙
    sym (idle_is net item ∙ ap (λ b. not (b && stands net item)) (list_any_at (λ e. is_item e.item item) net.network.list place no_element within same))

-- where there is none, the item is idle
pub idle_without_element : (net : NetView) (item : Item) → IsFalse (has_element net.network item) → true ≡ is_idle (standing net) item
idle_without_element net item none = sym (idle_is net item ∙ ap (λ b. not (b && stands net item)) none)

same_item : (a b : Item) → is_item a b ≡ is_item b a
same_item a b = nat_eq_equiv.symm (item_number a) (item_number b)

-- a test that fails for one item and is another test for all others
module _ (f g : Item → Bool) (item : Item) where
  abbrev but_for : Item → Type 0
  but_for x = g x ≡ cond (is_item item x) false (f x)

  abbrev passing : List Placed → List Placed
  passing ps = filter (λ q. g q.1.item) ps

  abbrev before : List Placed → List Placed
  before ps = filter (λ q. f q.1.item) ps

  filtered : (ps : List Placed) → AllByRecursion (λ p. but_for p.1.item) ps → filter (λ p. g p.1.item) ps ≡ others item (filter (λ p. f p.1.item) ps)
  filtered [] h = refl
  filtered (p ∷ ps) h = by (filtered ps h.1) (f p.1.item) refl (is_item item p.1.item) refl
    where
      told : (a b : Bool) → f p.1.item ≡ a → is_item item p.1.item ≡ b → g p.1.item ≡ cond b false a
      told a b fx same = h.0 ∙ (λ i. cond (same i) false (fx i))

      kept : (b : Bool) → is_item item p.1.item ≡ b → not (is_item p.1.item item) ≡ not b
      kept b same = ap not (same_item p.1.item item ∙ same)

      by : passing ps ≡ others item (before ps) → (a : Bool) → f p.1.item ≡ a → (b : Bool) → is_item item p.1.item ≡ b →
          cond (g p.1.item) (p ∷ passing ps) (passing ps) ≡ others item (cond a (p ∷ before ps) (before ps))
      by later true fx true same = ap (λ c. cond c (p ∷ passing ps) (passing ps)) (told true true fx same) ∙ later ∙ sym (ap (λ c. cond c (p ∷ others item (before ps)) (others item (before ps))) (kept true same))
      by later true fx false same = ap (λ c. cond c (p ∷ passing ps) (passing ps)) (told true false fx same) ∙ ap (λ ys. p ∷ ys) later ∙ sym (ap (λ c. cond c (p ∷ others item (before ps)) (others item (before ps))) (kept false same))
      by later false fx true same = ap (λ c. cond c (p ∷ passing ps) (passing ps)) (told false true fx same) ∙ later
      by later false fx false same = ap (λ c. cond c (p ∷ passing ps) (passing ps)) (told false false fx same) ∙ later

  pub others_stand : (network : Network) → AllByRecursion (λ e. but_for e.item) network.list → standing_elements network g ≡ others item (standing_elements network f)
  others_stand network h = filtered (enumerate_from 0 network.list) (placed (λ e. but_for e.item) 0 network.list h)

-- each element of a network is of an item that has an element
each_has : (network : Network) → AllByRecursion (λ e. has_element network e.item ≡ true) network.list
each_has network =
    weaker (λ e. (m : ℕ) → (item_number e.item == m) ≡ true → list_any (λ x. item_number x.item == m) network.list ≡ true) (λ e. has_element network e.item ≡ true)
    (λ e have. have (item_number e.item) (eq-eqb (item_number e.item) (item_number e.item) refl)) network.list
    (for_each (λ m e. (item_number e.item == m) ≡ true → list_any (λ x. item_number x.item == m) network.list ≡ true) network.list (λ m. any_of_each (λ x. item_number x.item == m) network.list))

pub standing_others : (net : NetView) (item : Item) → standing (net_without net item) ≡ others item (standing net)
standing_others net item =
    others_stand (stands net) (stands (net_without net item)) item net.network
    (weaker (λ e. has_element net.network e.item ≡ true) (λ e. stands (net_without net item) e.item ≡ cond (is_item item e.item) false (stands net e.item))
    (λ e have. one_row net.network net.open_items (opening item) e.item have) net.network.list (each_has net.network))

all_so : {X : Type 0} (P : X → Type 0) → ((x : X) → P x) → (xs : List X) → AllByRecursion P xs
all_so P each [] = tt
all_so P each (x ∷ xs) = (each x, all_so P each xs)

pub opened_last : (network : Network) (rows : List Switching) (item : Item) → others item (standing_elements network (stands_after rows)) ≡ standing_elements network (stands_after (rows ++ opening item ∷ []))
opened_last network rows item =
    sym (others_stand (stands_after rows) (stands_after (rows ++ opening item ∷ [])) item network
    (all_so (λ e. stands_after (rows ++ opening item ∷ []) e.item ≡ cond (is_item item e.item) false (stands_after rows e.item)) (λ e. last_row rows (opening item) e.item) network.list))

-- what isn't idle has an element and is not open
not_idle_has : (net : NetView) (item : Item) → is_idle (standing net) item ≡ false → has_element net.network item ≡ true
not_idle_has net item idle = by (has_element net.network item) refl
  where
    by : (b : Bool) → has_element net.network item ≡ b → b ≡ true
    by true is = refl
    by false is = no_way (sym (idle_is net item ∙ ap (λ b. not (b && stands net item)) is) ∙ idle)

not_idle_closed : (net : NetView) (item : Item) → is_idle (standing net) item ≡ false → contains net.open_items (item_number item) ≡ false
not_idle_closed net item idle = by (contains net.open_items (item_number item)) refl
  where
    by : (b : Bool) → contains net.open_items (item_number item) ≡ b → b ≡ false
    by false is = refl
    by true is = no_way (sym (idle_is net item ∙ ap not (ap (λ b. has_element net.network item && not b) is ∙ and_false (has_element net.network item))) ∙ idle)

put_back : (opened : Items) (n : ℕ) → contains opened n ≡ false → remove (insert opened n) n ≡ opened
put_back opened n closed =
    same_set nat_cmp_total nat_cmp-IsAntisymmetric (remove (insert opened n) n) opened
    (λ q.
    contains-remove nat_cmp_total (insert opened n) n q ∙
    (λ i. not (unsigned_tied q n i) && contains (insert opened n) q) ∙
    ap (λ b. not (nat_eq q n) && b) (contains-insert nat_cmp_total opened n q ∙ ap (λ b. b || contains opened q) (unsigned_tied q n)) ∙
    by q (nat_eq q n) refl)
  where
    by : (q : ℕ) (b : Bool) → nat_eq q n ≡ b → (not b && (b || contains opened q)) ≡ contains opened q
    by q true same = sym (ap (contains opened) (eqb-true q n same) ∙ closed)
    by q false other = refl

abbrev turned : NetView → Item → Bool → Items
turned net item has = cond has (insert net.open_items (item_number item)) net.open_items

-- an item that isn't idle leaves no trace
pub comes_back : (net : NetView) (item : Item) → IsFalse (is_idle (standing net) item) → switched_net (net_without net item) item false ≡ net
comes_back net item idle =
    ap (λ (o : Items). record { network = net.network; open_items = o })
    (ap (λ b. cond b (remove (turned net item b) (item_number item)) (turned net item b)) (not_idle_has net item idle) ∙ put_back net.open_items (item_number item) (not_idle_closed net item idle))

-- the item is open
pub open_without : (net : NetView) (item : Item) → IsFalse (is_idle (standing net) item) → IsFalse (stands (net_without net item) item)
open_without net item idle =
    one_row net.network net.open_items (opening item) item (not_idle_has net item idle) ∙ ap (λ b. cond b false (stands net item)) (eq-eqb (item_number item) (item_number item) refl)

-- taken out of the net that there was before
pub undone : (before now new : NetView) (item : Item) → IsFalse (is_idle (standing before) item) → now ≡ net_without before item → new ≡ switched_net now item false → new ≡ before
undone before now new item idle taken closed = closed ∙ ap (λ net. switched_net net item false) taken ∙ comes_back before item idle
