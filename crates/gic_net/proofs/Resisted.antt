-- What a net keeps when an element gets another resistance.
use Rattle.std.proofs.Common.{◌≡◌, ℕ, zero, suc, ◌+◌, ◌<◌, ◌≤◌, Bool, true, false, not, cond, List, [], ◌∷◌, length, map, get_or, set, arith, refl, ap, sym, ◌∙◌, subst}
use Rattle.std.proofs.lemmas.List.{length-set, map-set, get_or_default}
use Rattle.std.proofs.lemmas.List.Elements.{All-set, All-from_recursion, recursion_from_All}
use Rattle.std.proofs.lemmas.List.Folds.{fold-map}
use Rattle.std.proofs.Math.Seq.{map-set_same}
use Rattle.std.specs.List.{count_by, filter, enumerate_from}
use Rattle.gic_base.specs.declared.limits.TheConstants.{MOST_AT_A_NODE}
use Rattle.gic_model.specs.declared.parts.Element.{Element}
use Rattle.gic_model.specs.Network.{Network, ends_at}
use Rattle.gic_model.specs.Limits.{IsWithinLimits, IsElementWithin}
use Rattle.gic_model.specs.Sums.{Placed}
use Rattle.gic_net.specs.declared.conductor.Conductor.{Conductor}
use Rattle.gic_net.specs.Conductor.{conductor_of}
use Rattle.gic_net.specs.Net.{no_element, element_of, with_resistance}
use Rattle.gic_net.specs.Row.{NodeRow, item_number_at, stands_by}
use Rattle.gic_net.specs.ItemIndex.{IsNextOf, IsItemIndex}
use Rattle.gic_net.specs.Rows.{places_from, IsStored}

-- an element without its resistance
abbrev bare : Element → Element
bare e = record e { micro_ohm = 0 }

-- lists whose elements are the same but for their resistances
abbrev AreAlike : List Element → List Element → Type 0
AreAlike old new = map bare new ≡ map bare old

resisted : (list : List Element) (place ohm : ℕ) → AreAlike list (set list place (record (get_or list place no_element) { micro_ohm = ohm }))
resisted list place ohm = map-set_same bare list place (record (get_or list place no_element) { micro_ohm = ohm }) no_element refl

-- what doesn't read the resistances is the same of the bare elements
count_bare : (k : ℕ) (list : List Element) → count_by (λ e. ends_at e k) (map bare list) ≡ count_by (λ e. ends_at e k) list
count_bare k list = fold-map (λ (n : ℕ) (e : Element). n + cond (ends_at e k) 1 0) bare 0 list

places_bare : (place : ℕ) (list : List Element) (k : ℕ) → places_from place (map bare list) k ≡ places_from place list k
places_bare place [] k = refl
places_bare place (e ∷ es) k = by (ends_at e k) (places_bare (place + 1) es k)
  where
    by : (b : Bool) → places_from (place + 1) (map bare es) k ≡ places_from (place + 1) es k →
        map (λ (p : Placed). p.0) (cond b ((place, bare e) ∷ filter (λ p. ends_at p.1 k) (enumerate_from (place + 1) (map bare es))) (filter (λ p. ends_at p.1 k) (enumerate_from (place + 1) (map bare es)))) ≡
        map (λ (p : Placed). p.0) (cond b ((place, e) ∷ filter (λ p. ends_at p.1 k) (enumerate_from (place + 1) es)) (filter (λ p. ends_at p.1 k) (enumerate_from (place + 1) es)))
    by true rest = ap (λ ps. place ∷ ps) rest
    by false rest = rest

number_bare : (list : List Element) (place : ℕ) → item_number_at (map bare list) place ≡ item_number_at list place
number_bare [] place = refl
number_bare (e ∷ es) zero = refl
number_bare (e ∷ es) (suc place) = number_bare es place

-- and so of lists that are alike
count_alike : (k : ℕ) (old new : List Element) → AreAlike old new → count_by (λ e. ends_at e k) new ≡ count_by (λ e. ends_at e k) old
count_alike k old new same = sym (count_bare k new) ∙ ap (count_by (λ e. ends_at e k)) same ∙ count_bare k old

places_alike : (k : ℕ) (old new : List Element) → AreAlike old new → places_from 0 new k ≡ places_from 0 old k
places_alike k old new same = sym (places_bare 0 new k) ∙ ap (λ (l : List Element). places_from 0 l k) same ∙ places_bare 0 old k

number_alike : (place : ℕ) (old new : List Element) → AreAlike old new → item_number_at new place ≡ item_number_at old place
number_alike place old new same = sym (number_bare new place) ∙ ap (λ (l : List Element). item_number_at l place) same ∙ number_bare old place

stands_alike : (opened : List Bool) (old new : List Element) → AreAlike old new → stands_by new opened ≡ stands_by old opened
stands_alike opened old new same = λ i place. not (get_or opened (number_alike place old new same i) false)

-- the index of their items is the same
next_alike : (old new : List Element) (number from place : ℕ) → AreAlike old new → length new ≡ length old → IsNextOf old number from place → IsNextOf new number from place
next_alike old new number from place same long is = record {
  not_before = is.not_before;
  inside = omega (arith, is.inside, long);
  none_between = λ p h less e. is.none_between p h less (sym (number_alike p old new same) ∙ e);
  is_of_item = λ h. number_alike place old new same ∙ is.is_of_item (omega (arith, long));
}

index_alike : (old new : List Element) (first next : List ℕ) → AreAlike old new → length new ≡ length old → IsItemIndex old first next → IsItemIndex new first next
index_alike old new first next same long index = record {
  numbers = λ p h. subst (λ n. n < length first) (sym (number_alike p old new same)) (index.numbers p (omega (arith, long)));
  firsts = λ n h. next_alike old new n 0 (get_or first n 0) same long (index.firsts n h);
  next_count = index.next_count ∙ sym long;
  nexts = λ p h.
      subst (λ n. IsNextOf new n (p + 1) (get_or next p 0)) (sym (number_alike p old new same))
      (next_alike old new (item_number_at old p) (p + 1) (get_or next p 0) same long (index.nexts p (omega (arith, long))));
}

-- the limits hold of the network with another resistance that is within them
pub limits_resisted : (network : Network) (place ohm : ℕ) → IsWithinLimits network → place < length network.list → 1000 ≤ ohm → ohm ≤ 1000000000 → IsWithinLimits (with_resistance network place ohm)
limits_resisted network place ohm limits inside least most =
    let changed : Element = record (element_of network place) { micro_ohm = ohm } in
    let within = All-from_recursion (IsElementWithin network.nodes) network.list limits.each_element in
    let was = within place no_element inside in
    let is : IsElementWithin network.nodes changed = record {
      from_node = was.from_node;
      to_end = was.to_end;
      ends_differ = was.ends_differ;
      one_or_three = was.one_or_three;
      least_ohm = least;
      most_ohm = most;
    } in record {
      few_nodes = limits.few_nodes;
      few_elements = omega (arith, limits.few_elements, length-set network.list place changed);
      each_element = recursion_from_All (IsElementWithin network.nodes) (set network.list place changed) (All-set (IsElementWithin network.nodes) network.list place changed is within);
      few_at_a_node = λ k h. subst (λ n. n ≤ MOST_AT_A_NODE) (sym (count_alike k network.list (set network.list place changed) (resisted network.list place ohm))) (limits.few_at_a_node k h);
    }

-- what a net keeps is the same
pub stored_resisted : (network : Network) (opened : List Bool) (first next : List ℕ) (rows : List NodeRow) (place ohm : ℕ) → IsStored network opened first next rows →
    place < length network.list → 1000 ≤ ohm → ohm ≤ 1000000000 → IsStored (with_resistance network place ohm) opened first next rows
stored_resisted network opened first next rows place ohm stored inside least most =
    let changed : Element = record (element_of network place) { micro_ohm = ohm } in
    let new = set network.list place changed in
    let same = resisted network.list place ohm in record {
      limits = limits_resisted network place ohm stored.limits inside least most;
      index = index_alike network.list new first next same (length-set network.list place changed) stored.index;
      mark_count = stored.mark_count;
      row_count = stored.row_count;
      each_row = λ k h.
          stored.each_row k h ∙
          ap (λ (t : ℕ → Bool). record { all = places_from 0 network.list k; standing = filter t (places_from 0 network.list k) }) (sym (stands_alike opened network.list new same)) ∙
          ap (λ ps. record { all = ps; standing = filter (stands_by new opened) ps }) (sym (places_alike k network.list new same));
    }

-- a conductor that is worked out anew at its element's place
pub conductors_resisted : (list : List Element) (conductors : List Conductor) (place : ℕ) (changed : Element) (one : Conductor) → conductors ≡ map conductor_of list → one ≡ conductor_of changed →
    set conductors place one ≡ map conductor_of (set list place changed)
conductors_resisted list conductors place changed one each is =
    ap (λ (cs : List Conductor). set cs place one) each ∙ ap (set (map conductor_of list) place) is ∙ sym (map-set conductor_of list place changed)

-- both, where an element of the list gets another resistance
pub kept_resisted : (nodes : ℕ) (list : List Element) (opened : List Bool) (first next : List ℕ) (rows : List NodeRow) (conductors : List Conductor) (place ohm : ℕ) (element : Element) (one : Conductor) →
    IsStored (record { nodes = nodes; list = list }) opened first next rows × (conductors ≡ map conductor_of list) → place < length list → element ≡ get_or list place element →
    1000 ≤ ohm → ohm ≤ 1000000000 → one ≡ conductor_of (record element { micro_ohm = ohm }) →
    IsStored (record { nodes = nodes; list = set list place (record element { micro_ohm = ohm }) }) opened first next rows ×
    (set conductors place one ≡ map conductor_of (set list place (record element { micro_ohm = ohm })))
kept_resisted nodes list opened first next rows conductors place ohm element one kept inside here least most worked = (
  subst (λ (e : Element). IsStored (record { nodes = nodes; list = set list place (record e { micro_ohm = ohm }) }) opened first next rows) (sym (here ∙ get_or_default list place element no_element inside))
      (stored_resisted (record { nodes = nodes; list = list }) opened first next rows place ohm kept.0 inside least most),
  conductors_resisted list conductors place (record element { micro_ohm = ohm }) one kept.1 worked,
)
