-- The places of the standing elements at a node, as a row keeps them.
use Rattle.std.proofs.Common.{◌≡◌, ℕ, zero, suc, ◌+◌, ◌<◌, ◌≤◌, Bool, true, false, cond, ◌||◌, ◌==◌, nat_lt, List, [], ◌∷◌, length, map, get_or, arith, refl, ap, sym, ◌∙◌, subst, eq-eqb}
use Rattle.std.proofs.Math.Nat.{zero-add}
use Rattle.std.proofs.lemmas.Bool.{ne_eqb}
use Rattle.std.proofs.lemmas.Bool.Decides.{nat_tests}
use Rattle.std.proofs.lemmas.List.{get_or-map, length-map, get_or_default}
use Rattle.std.proofs.lemmas.List.Elements.{All-from_recursion}
use Rattle.std.proofs.lemmas.List.Sums.{sum_by-cons}
use Rattle.std.proofs.lemmas.List.FromFn.{length-enumerate_from, get_or-enumerate_from}
use Rattle.std.specs.List.{AllByRecursion, Contains, filter, list_any, enumerate_from, count_by}
use Rattle.gic_model.specs.declared.parts.Element.{Element}
use Rattle.gic_model.specs.Network.{Network, ends_at}
use Rattle.gic_model.specs.Limits.{IsWithinLimits, IsElementWithin}
use Rattle.gic_model.specs.Standing.{is_standing}
use Rattle.gic_model.specs.Sums.{Placed}
use Rattle.gic_net.specs.Switched.{stands_without}
use Rattle.gic_model.proofs.Members.{kept, placed, both, filter_same}
use Rattle.gic_net.specs.Net.{NetView, standing, stands, no_element, element_of, row_at, placed_at}
use Rattle.gic_net.specs.Row.{NodeRow, full_row, stands_by}
use Rattle.gic_net.specs.Rows.{node_row_at, places_from, IsStored}
use Rattle.gic_net.specs.OpenSet.{open_set}
use Rattle.gic_net.proofs.OpenSet.{stands_unmarked}
use Rattle.gic_net.proofs.Kept.{IsIn, each_in, each_of, kept_places}

-- rows in which the net's standing elements can be read
pub record AreRead (net : NetView) (rows : List NodeRow) : Type 0 where
  pub limits : IsWithinLimits net.network
  pub count : length rows ≡ net.network.nodes
  pub each : (k : ℕ) → k < net.network.nodes → (node_row_at rows k).standing ≡ map (λ (p : Placed). p.0) (row_at net k)

-- what a net keeps can be read so
pub read_of : (network : Network) (opened : List Bool) (first next : List ℕ) (rows : List NodeRow) → IsStored network opened first next rows →
    AreRead (record { network = network; open_items = open_set opened }) rows
read_of network opened first next rows stored = record {
  limits = stored.limits;
  count = stored.row_count;
  each = λ k h.
      ap (λ (r : NodeRow). r.standing) (stored.each_row k h) ∙
      filter_same (stands_by network.list opened) (λ place. stands_without (open_set opened) (get_or network.list place no_element).item) (places_from 0 network.list k)
      (each_of (λ place. stands_by network.list opened place ≡ stands_without (open_set opened) (get_or network.list place no_element).item) (places_from 0 network.list k)
      (λ place. sym (stands_unmarked opened (get_or network.list place no_element).item))) ∙
      kept_places network (stands_without (open_set opened)) k;
}

-- a place and what stands there
pub record IsPlaced (network : Network) (k : ℕ) (p : Placed) : Type 0 where
  pub inside : p.0 < length network.list
  pub element : p.1 ≡ element_of network p.0
  pub within : IsElementWithin network.nodes p.1
  pub ends : ends_at p.1 k ≡ true

module _ (net : NetView) (limits : IsWithinLimits net.network) (k : ℕ) where
  all_placed : AllByRecursion (λ p. IsIn net.network.list p × IsElementWithin net.network.nodes p.1) (enumerate_from 0 net.network.list)
  all_placed = both (IsIn net.network.list) (λ p. IsElementWithin net.network.nodes p.1) (enumerate_from 0 net.network.list) (each_in net.network.list) (placed (IsElementWithin net.network.nodes) 0 net.network.list limits.each_element)

  each_placed : AllByRecursion (IsPlaced net.network k) (row_at net k)
  each_placed =
      kept (λ p. ends_at p.1 k) (λ p. IsIn net.network.list p × IsElementWithin net.network.nodes p.1) (IsPlaced net.network k)
      (λ p is h. record { inside = h.0.0; element = h.0.1; within = h.1; ends = is }) (standing net)
      (kept (λ p. stands net p.1.item) (λ p. IsIn net.network.list p × IsElementWithin net.network.nodes p.1) (λ p. IsIn net.network.list p × IsElementWithin net.network.nodes p.1) (λ p is h. h) (enumerate_from 0 net.network.list) all_placed)

  -- each standing element at the node is one
  pub placed_is : (place : ℕ) → place < length (row_at net k) → IsPlaced net.network k (placed_at net k place)
  placed_is place h = All-from_recursion (IsPlaced net.network k) (row_at net k) each_placed place (0, no_element) h

-- how many there are
fewer : {X : Type 0} (t s : X → Bool) (xs : List X) → length (filter t (filter s xs)) ≤ length (filter t xs)
fewer t s [] = omega arith
fewer t s (x ∷ xs) = by (s x) (t x) refl (fewer t s xs)
  where
    by : (a b : Bool) → t x ≡ b → length (filter t (filter s xs)) ≤ length (filter t xs) → length (filter t (cond a (x ∷ filter s xs) (filter s xs))) ≤ length (cond b (x ∷ filter t xs) (filter t xs))
    by true true is rest = rw is (omega (arith, rest))
    by true false is rest = rw is rest
    by false true is rest = omega (arith, rest)
    by false false is rest = rest

counted : (t : Element → Bool) (i : ℕ) (es : List Element) → length (filter (λ p. t p.1) (enumerate_from i es)) ≡ count_by t es
counted t i [] = refl
counted t i (e ∷ es) = by (t e) (counted t (i + 1) es) ∙ sym (sum_by-cons (λ x. cond (t x) 1 0) e es)
  where
    by : (b : Bool) → length (filter (λ p. t p.1) (enumerate_from (i + 1) es)) ≡ count_by t es →
        length (cond b ((i, e) ∷ filter (λ p. t p.1) (enumerate_from (i + 1) es)) (filter (λ p. t p.1) (enumerate_from (i + 1) es))) ≡ cond b 1 0 + count_by t es
    by true rest = omega (arith, rest)
    by false rest = omega (arith, rest)

pub few_at : (net : NetView) (k : ℕ) → IsWithinLimits net.network → k < net.network.nodes → length (row_at net k) ≤ 256
few_at net k limits h =
    omega (
      arith,
      fewer (λ p. ends_at p.1 k) (λ p. stands net p.1.item) (enumerate_from 0 net.network.list),
      counted (λ e. ends_at e k) 0 net.network.list,
      limits.few_at_a_node k h,
    )

-- what is read of the row of the node k
module _ (net : NetView) (rows : List NodeRow) (read : AreRead net rows) (k : ℕ) (h : k < net.network.nodes) (d : NodeRow) where
  standing_is : (get_or rows k d).standing ≡ map (λ (p : Placed). p.0) (row_at net k)
  standing_is = ap (λ (r : NodeRow). r.standing) (get_or_default rows k d (full_row []) (omega (arith, read.count))) ∙ read.each k h

  pub degree_is : length (get_or rows k d).standing ≡ length (row_at net k)
  degree_is = ap length standing_is ∙ length-map (row_at net k) (λ p. p.0)

  pub degree_few : length (get_or rows k d).standing ≤ 256
  degree_few = omega (arith, degree_is, few_at net k read.limits h)

  module _ (place id : ℕ) (inside : place < length (row_at net k)) (is : id ≡ get_or (get_or rows k d).standing place 0) where
    id_is : id ≡ (placed_at net k place).0
    id_is = is ∙ ap (λ (xs : List ℕ). get_or xs place 0) standing_is ∙ get_or-map (λ (p : Placed). p.0) (row_at net k) place (0, no_element) 0 inside

    pub whole : placed_at net k place ≡ (id, element_of net.network id)
    whole = let p = placed_is net read.limits k place inside in ap (λ (e : Element). ((placed_at net k place).0, e)) p.element ∙ ap (λ (n : ℕ). (n, element_of net.network n)) (sym id_is)

    pub facts : IsPlaced net.network k (id, element_of net.network id)
    facts = subst (IsPlaced net.network k) whole (placed_is net read.limits k place inside)

-- a filter keeps something exactly where an item passes
pub some_any : {X : Type 0} (p : X → Bool) (xs : List X) → nat_lt 0 (length (filter p xs)) ≡ list_any p xs
some_any p [] = refl
some_any p (x ∷ xs) = by (p x) (some_any p xs)
  where
    some : (n : ℕ) → nat_lt 0 (suc n) ≡ true
    some n = grind (arith, nat_tests)

    by : (b : Bool) → nat_lt 0 (length (filter p xs)) ≡ list_any p xs → nat_lt 0 (length (cond b (x ∷ filter p xs) (filter p xs))) ≡ (b || list_any p xs)
    by true rest = some (length (filter p xs))
    by false rest = rest

-- whether the element at a place is among those that pass a test
none_below : (t : Element → Bool) (i : ℕ) (es : List Element) (n : ℕ) → n < i → list_any (λ p. p.0 == n) (filter (λ p. t p.1) (enumerate_from i es)) ≡ false
none_below t i [] n h = refl
none_below t i (e ∷ es) n h = by (t e) (none_below t (i + 1) es n (omega arith))
  where
    by : (b : Bool) → list_any (λ p. p.0 == n) (filter (λ p. t p.1) (enumerate_from (i + 1) es)) ≡ false →
        list_any (λ (p : Placed). p.0 == n) (cond b ((i, e) ∷ filter (λ p. t p.1) (enumerate_from (i + 1) es)) (filter (λ p. t p.1) (enumerate_from (i + 1) es))) ≡ false
    by true rest = ap (λ c. c || list_any (λ p. p.0 == n) (filter (λ p. t p.1) (enumerate_from (i + 1) es))) (ne_eqb i n (λ e. omega arith)) ∙ rest
    by false rest = rest

any_place : (t : Element → Bool) (i : ℕ) (es : List Element) (n : ℕ) (d : Element) → n < length es →
    t (get_or es n d) ≡ list_any (λ p. p.0 == i + n) (filter (λ p. t p.1) (enumerate_from i es))
any_place t i [] n d h = absurd (omega arith)
any_place t i (e ∷ es) zero d h = by (t e)
  where
    by : (b : Bool) → b ≡ list_any (λ (p : Placed). p.0 == i + zero) (cond b ((i, e) ∷ filter (λ p. t p.1) (enumerate_from (i + 1) es)) (filter (λ p. t p.1) (enumerate_from (i + 1) es)))
    by true = sym (ap (λ c. c || list_any (λ p. p.0 == i + zero) (filter (λ p. t p.1) (enumerate_from (i + 1) es))) (eq-eqb i (i + zero) (omega arith)))
    by false = sym (none_below t (i + 1) es (i + zero) (omega arith))
any_place t i (e ∷ es) (suc n) d h =
    any_place t (i + 1) es n d (omega arith) ∙ ap (λ m. list_any (λ p. p.0 == m) (filter (λ p. t p.1) (enumerate_from (i + 1) es))) same ∙ by (t e)
  where
    same : i + 1 + n ≡ i + suc n
    same = omega arith

    by : (b : Bool) → list_any (λ p. p.0 == i + suc n) (filter (λ p. t p.1) (enumerate_from (i + 1) es)) ≡
        list_any (λ (p : Placed). p.0 == i + suc n) (cond b ((i, e) ∷ filter (λ p. t p.1) (enumerate_from (i + 1) es)) (filter (λ p. t p.1) (enumerate_from (i + 1) es)))
    by true = sym (ap (λ c. c || list_any (λ p. p.0 == i + suc n) (filter (λ p. t p.1) (enumerate_from (i + 1) es))) (ne_eqb i (i + suc n) (λ e. omega arith)))
    by false = refl

-- the element at a place stands exactly where it is among the standing ones
pub is_standing_at : (net : NetView) (place : ℕ) → place < length net.network.list → stands net (element_of net.network place).item ≡ is_standing (standing net) place
is_standing_at net place h =
    any_place (λ e. stands net e.item) 0 net.network.list place no_element h ∙
    ap (λ m. list_any (λ p. p.0 == m) (standing net)) (zero-add place)

kept_contains : {X : Type 0} (t : X → Bool) (xs : List X) (j : ℕ) (x : X) → j < length xs → get_or xs j x ≡ x → t x ≡ true → Contains (filter t xs) x
kept_contains t [] j x h is passes = absurd (omega arith)
kept_contains t (y ∷ ys) zero x h is passes = by (t y) (ap t is ∙ passes)
  where
    by : (b : Bool) → b ≡ true → Contains (cond b (y ∷ filter t ys) (filter t ys)) x
    by true same = (0, omega arith, is)
    by false same = cc
kept_contains t (y ∷ ys) (suc j) x h is passes = by (t y) (kept_contains t ys j x (omega arith) is passes)
  where
    by : (b : Bool) → Contains (filter t ys) x → Contains (cond b (y ∷ filter t ys) (filter t ys)) x
    by true rest = (suc rest.0, omega (arith, rest.1), rest.2)
    by false rest = rest

-- an element that stands is in the list of the standing ones
pub listed : (net : NetView) (place : ℕ) → place < length net.network.list → stands net (element_of net.network place).item ≡ true → Contains (standing net) (place, element_of net.network place)
listed net place h is =
    kept_contains (λ (p : Placed). stands net p.1.item) (enumerate_from 0 net.network.list) place (place, element_of net.network place) (omega (arith, length-enumerate_from 0 net.network.list))
    (get_or-enumerate_from 0 net.network.list place (place, element_of net.network place) h ∙
    ap (λ e. (0 + place, e)) (get_or_default net.network.list place (element_of net.network place) no_element h) ∙ ap (λ n. (n, element_of net.network place)) (zero-add place)) is
