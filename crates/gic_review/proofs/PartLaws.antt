-- The sizes that are counted are those of the parts, and no others are.
use Rattle.std.proofs.Common.{◌≡◌, ◌≢◌, ◌⊎◌, ℕ, zero, suc, ◌+◌, ◌<◌, ◌≤◌, Bool, true, false, cond, ◌&&◌, ◌||◌, ◌==◌, List, [], ◌∷◌, length, map, refl, ap, sym, ◌∙◌, subst, arith, inl, inr, eqb-true}
use Rattle.std.specs.Prelude.{slice_index, not, IsTrue, ◌↔◌, count_by}
use Rattle.std.specs.List.{AllByRecursion, range_with_len, list_any}
use Rattle.std.proofs.lemmas.Bool.{or_cases, and_parts, and_from, cases_eq, cases_lt, eq-eqb, ne_eqb, or_left, or_right, le-leb, lt-leb}
use Rattle.std.proofs.lemmas.List.{ext_get_or, length-map}
use Rattle.std.proofs.lemmas.List.Sums.{sum_by-cons}
use Rattle.std.proofs.lemmas.List.FromFn.{length-range_with_len, get_or-map-range_with_len, fill_by_all}
use Rattle.gic_model.specs.declared.parts.End.{End}
use Rattle.gic_model.specs.declared.parts.End.TheVariants.{Node, Earth}
use Rattle.gic_model.specs.declared.parts.Element.{Element}
use Rattle.gic_model.specs.Network.{Network, is_node, ends_at}
use Rattle.gic_model.specs.Limits.{IsWithinLimits, IsElementWithin, IsEndWithin}
use Rattle.gic_model.specs.Earthing.{is_earth, joins}
use Rattle.gic_review.specs.Chains.{HasElementBetween, IsChain, AreTogether, HasElement}
use Rattle.gic_review.specs.Union.{firsts_of}
use Rattle.gic_review.specs.PartSizes.{times_first, part_size, sizes_of}
use Rattle.gic_review.specs.Parts.{IsFirstOfPart, IsPartSize, ArePartSizes}
use Rattle.gic_review.proofs.Chained.{any_weaker, together_itself, together_then, together_turned, same_together}
use Rattle.gic_review.proofs.Firsts.{AreFirsts, firsts_found}

no_way : false ≡ true → ⊥
no_way e = cc

-- ---- counts

counted_cons : {X : Type 0} (p : X → Bool) (x : X) (xs : List X) → count_by p (x ∷ xs) ≡ cond (p x) 1 0 + count_by p xs
counted_cons p x xs = sum_by-cons (λ y. cond (p y) 1 0) x xs

-- of numbers that a function gives
counted_map : (p : ℕ → Bool) (f : ℕ → ℕ) (xs : List ℕ) → count_by p (map f xs) ≡ count_by (λ x. p (f x)) xs
counted_map p f [] = refl
counted_map p f (x ∷ xs) = counted_cons p (f x) (map f xs) ∙ ap (λ n. cond (p (f x)) 1 0 + n) (counted_map p f xs) ∙ sym (counted_cons (λ y. p (f y)) x xs)

-- by tests that agree on a range
counted_alike : (p q : ℕ → Bool) (low n : ℕ) → ((m : ℕ) → low ≤ m → m < low + n → p m ≡ q m) → count_by p (range_with_len low n) ≡ count_by q (range_with_len low n)
counted_alike p q low zero same = refl
counted_alike p q low (suc n) same =
    counted_cons p low (range_with_len (low + 1) n)
    ∙ ap (λ b. cond b 1 0 + count_by p (range_with_len (low + 1) n)) (same low (omega arith) (omega arith))
    ∙ ap (λ k. cond (q low) 1 0 + k) (counted_alike p q (low + 1) n (λ m from to. same m (omega arith) (omega arith)))
    ∙ sym (counted_cons q low (range_with_len (low + 1) n))

-- a place whose number is the one that is counted
some_counted : (k : ℕ) (xs : List ℕ) → 0 < times_first xs k → (j : ℕ) × (j < length xs) × (slice_index xs j ≡ k)
some_counted k [] h = absurd (omega (arith, h))
some_counted k (x ∷ xs) h = elim (cases_eq x k) [
  | inl e ↦ (0, omega arith, e)
  | inr other ↦
      let fails : ◌≡◌ {A = ℕ} (cond (x == k) 1 0) 0 = rw (ne_eqb x k other) refl in
      let later = some_counted k xs (omega (arith, counted_cons (λ y. y == k) x xs, fails, h)) in
      (suc later.0, omega (arith, later.1), later.2)
]

at_most_one : (b : Bool) → cond b 1 0 ≤ 1
at_most_one true = omega arith
at_most_one false = omega arith

-- and where there are two, another one
other_counted : (k : ℕ) (xs : List ℕ) (i : ℕ) → 2 ≤ times_first xs k → (j : ℕ) × (j < length xs) × (j ≢ i) × (slice_index xs j ≡ k)
other_counted k [] i h = absurd (omega (arith, h))
other_counted k (x ∷ xs) zero h =
    let later = some_counted k xs (omega (arith, counted_cons (λ y. y == k) x xs, at_most_one (x == k), h)) in
    (suc later.0, omega (arith, later.1), (λ e. absurd (omega (arith, e))), later.2)
other_counted k (x ∷ xs) (suc i) h = elim (cases_eq x k) [
  | inl e ↦ (0, omega arith, (λ z. absurd (omega (arith, z))), e)
  | inr other ↦
      let fails : ◌≡◌ {A = ℕ} (cond (x == k) 1 0) 0 = rw (ne_eqb x k other) refl in
      let later = other_counted k xs i (omega (arith, counted_cons (λ y. y == k) x xs, fails, h)) in
      (suc later.0, omega (arith, later.1), (λ z. later.2 (omega (arith, z))), later.3)
]

-- one place is counted
one_counted : (k : ℕ) (xs : List ℕ) (i : ℕ) → i < length xs → slice_index xs i ≡ k → 1 ≤ times_first xs k
one_counted k [] i h is = absurd (omega (arith, h))
one_counted k (x ∷ xs) zero h is =
    let passes : ◌≡◌ {A = ℕ} (cond (x == k) 1 0) 1 = rw (eq-eqb x k is) refl in
    omega (arith, counted_cons (λ y. y == k) x xs, passes)
one_counted k (x ∷ xs) (suc i) h is = omega (arith, counted_cons (λ y. y == k) x xs, one_counted k xs i (omega (arith, h)) is)

-- and two different ones as two
two_counted : (k : ℕ) (xs : List ℕ) (i j : ℕ) → i < j → j < length xs → slice_index xs i ≡ k → slice_index xs j ≡ k → 2 ≤ times_first xs k
two_counted k [] i j less h is also = absurd (omega (arith, h))
two_counted k (x ∷ xs) i zero less h is also = absurd (omega (arith, less))
two_counted k (x ∷ xs) zero (suc j) less h is also =
    let passes : ◌≡◌ {A = ℕ} (cond (x == k) 1 0) 1 = rw (eq-eqb x k is) refl in
    omega (arith, counted_cons (λ y. y == k) x xs, passes, one_counted k xs j (omega (arith, h)) also)
two_counted k (x ∷ xs) (suc i) (suc j) less h is also =
    omega (arith, counted_cons (λ y. y == k) x xs, two_counted k xs i j (omega (arith, less)) (omega (arith, h)) is also)

pub both_counted : (k : ℕ) (xs : List ℕ) (i j : ℕ) → i ≢ j → i < length xs → j < length xs → slice_index xs i ≡ k → slice_index xs j ≡ k → 2 ≤ times_first xs k
both_counted k xs i j apart within also is too = elim (cases_lt i j) [
  | inl less ↦ two_counted k xs i j less also is too
  | inr more ↦ two_counted k xs j i (omega (arith, more, λ (e : j ≡ i). apart (sym e))) within too is
]

-- ---- elements at a node

-- an element that joins a node to another ends there, and is no earthing
joins_not_earth : (k m : ℕ) (e : Element) → joins k m e ≡ true → (ends_at e k && not (is_earth e.to)) ≡ true
joins_not_earth k m e h = by e.to (or_cases ((e.from.0 == k) && is_node e.to m) ((e.from.0 == m) && is_node e.to k) h)
  where
    by : (t : End) → (((e.from.0 == k) && is_node t m) ≡ true) ⊎ (((e.from.0 == m) && is_node t k) ≡ true) → (((e.from.0 == k) || is_node t k) && not (is_earth t)) ≡ true
    by Earth (inl j) = absurd (no_way (and_parts (e.from.0 == k) false j).1)
    by Earth (inr j) = absurd (no_way (and_parts (e.from.0 == m) false j).1)
    by (Node n) (inl j) = and_from ((e.from.0 == k) || (n.0 == k)) true (or_left (e.from.0 == k) (n.0 == k) (and_parts (e.from.0 == k) (n.0 == m) j).0) refl
    by (Node n) (inr j) = and_from ((e.from.0 == k) || (n.0 == k)) true (or_right (e.from.0 == k) (n.0 == k) (and_parts (e.from.0 == m) (n.0 == k) j).1) refl

joined_has : (es : List Element) (k m : ℕ) → HasElementBetween es k m → HasElement es k
joined_has es k m h = any_weaker (joins k m) (λ e. ends_at e k && not (is_earth e.to)) (λ e is. joins_not_earth k m e is) es h

-- a chain to another node begins with an element
chain_has : (es : List Element) (k m : ℕ) (over : List ℕ) → IsChain es k over m → k ≢ m → HasElement es k
chain_has es k m [] h apart = absurd (apart h)
chain_has es k m (next ∷ rest) h apart = joined_has es k next h.0

-- an element at a node that is no earthing joins it to another
other_of : (nodes : ℕ) (e : Element) (k : ℕ) → IsElementWithin nodes e → (ends_at e k && not (is_earth e.to)) ≡ true → (m : ℕ) × (joins k m e ≡ true) × (m ≢ k) × (m < nodes) × (k < nodes)
other_of nodes e k within h = by e.to refl (and_parts (ends_at e k) (not (is_earth e.to)) h)
  where
    by : (t : End) → e.to ≡ t → ((((e.from.0 == k) || is_node e.to k)) ≡ true) × (not (is_earth e.to) ≡ true) → (m : ℕ) × (joins k m e ≡ true) × (m ≢ k) × (m < nodes) × (k < nodes)
    by Earth is p = absurd (no_way (ap (λ t. not (is_earth t)) (sym is) ∙ p.1))
    by (Node n) is p =
        let to_in : n.0 < nodes = subst (IsEndWithin nodes) is within.to_end in
        let apart : (n.0 == e.from.0) ≡ false = ap (λ t. is_node t e.from.0) (sym is) ∙ within.ends_differ in
        let there : is_node e.to n.0 ≡ true = ap (λ t. is_node t n.0) is ∙ eq-eqb n.0 n.0 refl in
        elim (or_cases (e.from.0 == k) (is_node e.to k) p.0) [
          | inl at_from ↦
              let same = eqb-true e.from.0 k at_from in (
                n.0,
                or_left ((e.from.0 == k) && is_node e.to n.0) ((e.from.0 == n.0) && is_node e.to k) (and_from (e.from.0 == k) (is_node e.to n.0) at_from there),
                (λ z. no_way (sym apart ∙ eq-eqb n.0 e.from.0 (z ∙ sym same))),
                to_in,
                subst (λ (x : ℕ). x < nodes) same within.from_node,
              )
          | inr at_to ↦
              let same : n.0 ≡ k = eqb-true n.0 k (ap (λ t. is_node t k) (sym is) ∙ at_to) in (
                e.from.0,
                or_right ((e.from.0 == k) && is_node e.to e.from.0) ((e.from.0 == e.from.0) && is_node e.to k) (and_from (e.from.0 == e.from.0) (is_node e.to k) (eq-eqb e.from.0 e.from.0 refl) at_to),
                (λ z. no_way (sym apart ∙ eq-eqb n.0 e.from.0 (same ∙ sym z))),
                within.from_node,
                subst (λ (x : ℕ). x < nodes) same to_in,
              )
        ]

other_joined : (nodes : ℕ) (es : List Element) (k : ℕ) → AllByRecursion (IsElementWithin nodes) es → HasElement es k → (m : ℕ) × (HasElementBetween es k m) × (m ≢ k) × (m < nodes) × (k < nodes)
other_joined nodes [] k within h = absurd (no_way h)
other_joined nodes (e ∷ es) k within h = elim (or_cases (ends_at e k && not (is_earth e.to)) (list_any (λ x. ends_at x k && not (is_earth x.to)) es) h) [
  | inl here ↦ let o = other_of nodes e k within.0 here in (o.0, or_left (joins k o.0 e) (list_any (joins k o.0) es) o.1, o.2, o.3, o.4)
  | inr later ↦ let o = other_joined nodes es k within.1 later in (o.0, or_right (joins k o.0 e) (list_any (joins k o.0) es) o.1, o.2, o.3, o.4)
]

-- ---- parts

module _ (network : Network) (limits : IsWithinLimits network) where
  known : AreFirsts network.nodes network.list (firsts_of network)
  known = firsts_found network limits

  -- the first node of each
  abbrev first : ℕ → ℕ
  first k = slice_index (firsts_of network) k

  -- nodes with one first node belong together, and no others do
  same_part : (k m : ℕ) → k < network.nodes → m < network.nodes → first k ≡ first m → AreTogether network.list k m
  same_part k m k_in m_in same =
      together_then network.list k (first k) m (known.together k k_in)
      (subst (λ (n : ℕ). AreTogether network.list n m) (sym same) (together_turned network.list m (first m) (known.together m m_in)))

  one_first : (k m : ℕ) → AreTogether network.list k m → first k ≡ first m
  one_first k m t = same_together (slice_index (firsts_of network)) network.list known.joined k m t

  -- a node before which none belongs to it is the first of its own
  own_first : (k : ℕ) → k < network.nodes → ((j : ℕ) → j < k → ¬ AreTogether network.list k j) → first k ≡ k
  own_first k within none = elim (cases_lt (first k) k) [
    | inl before ↦ absurd (none (first k) before (known.together k within))
    | inr after ↦ omega (arith, after, known.least k within)
  ]

  -- two nodes are counted at the first node of a part
  two_at_first : (k : ℕ) → k < network.nodes → IsFirstOfPart network k → 2 ≤ times_first (firsts_of network) k
  two_at_first k within part =
      let own = own_first k within part.first in
      let other = other_joined network.nodes network.list part.node limits.each_element part.element in
      let here : first part.node ≡ k = sym (one_first k part.node part.together) ∙ own in
      let there : first other.0 ≡ k = sym (known.joined part.node other.0 other.1) ∙ here in
      let count = known.count in
      both_counted k (firsts_of network) other.0 part.node other.2 (omega (arith, count, other.3)) (omega (arith, count, other.4)) there here

  -- and no node is counted twice otherwise
  first_at_two : (k : ℕ) → 2 ≤ times_first (firsts_of network) k → IsFirstOfPart network k
  first_at_two k many =
      let count = known.count in
      let some = some_counted k (firsts_of network) (omega (arith, many)) in
      let some_in : some.0 < network.nodes = omega (arith, count, some.1) in
      let own : first k ≡ k = ap first (sym some.2) ∙ known.itself some.0 some_in ∙ some.2 in
      let k_in : k < network.nodes = omega (arith, some.2, known.least some.0 some_in, some_in) in
      let other = other_counted k (firsts_of network) k many in
      let other_in : other.0 < network.nodes = omega (arith, count, other.1) in
      let chain = same_part k other.0 k_in other_in (own ∙ sym other.3) in
      record {
        first = λ j before t.
            let least = known.least j (omega (arith, before, k_in)) in
            absurd (omega (arith, one_first k j t, own, least, before));
        node = k;
        together = together_itself network.list k;
        element = chain_has network.list k other.0 chain.over chain.chain (λ e. other.2 (sym e));
      }

  belongs_to : (k m : ℕ) → k < network.nodes → m < network.nodes → first k ≡ k → IsTrue (first m == k) ↔ AreTogether network.list k m
  belongs_to k m k_in m_in own =
      (λ is. same_part k m k_in m_in (own ∙ sym (eqb-true (first m) k is)), λ t. eq-eqb (first m) k (sym (one_first k m t) ∙ own))

  counted_whole : (k : ℕ) → times_first (firsts_of network) k ≡ count_by (λ m. first m == k) (range_with_len 0 network.nodes)
  counted_whole k =
      let whole : firsts_of network ≡ map first (range_with_len 0 network.nodes) = fill_by_all first (firsts_of network) network.nodes 0 known.count (λ j h. refl) in
      ap (count_by (λ x. x == k)) whole ∙ counted_map (λ x. x == k) first (range_with_len 0 network.nodes)

  is_counted : (k : ℕ) → k < network.nodes → IsFirstOfPart network k → IsPartSize network k (times_first (firsts_of network) k)
  is_counted k within part = record {
    belongs = λ m. first m == k;
    together = λ m m_in. belongs_to k m within m_in (own_first k within part.first);
    counted = counted_whole k;
  }

  size_at : (k : ℕ) → k < network.nodes → slice_index (sizes_of network) k ≡ part_size (times_first (firsts_of network) k)
  size_at k within =
      let inside : k < length (firsts_of network) = omega (arith, within, known.count) in
      get_or-map-range_with_len (λ n. part_size (times_first (firsts_of network) n)) 0 (length (firsts_of network)) k k 0 inside (omega arith)

  size_many : (n : ℕ) → 2 ≤ n → part_size n ≡ n
  size_many n h = rw (le-leb 2 n h) refl

  size_few : (n : ℕ) → n < 2 → part_size n ≡ 0
  size_few n h = rw (lt-leb 2 n h) refl

  pub sizes_right : ArePartSizes network (sizes_of network)
  sizes_right = record {
    count = length-map (range_with_len 0 (length (firsts_of network))) (λ k. part_size (times_first (firsts_of network) k)) ∙ length-range_with_len 0 (length (firsts_of network)) ∙ known.count;
    of_part = λ k within part.
        subst (IsPartSize network k) (sym (size_at k within ∙ size_many (times_first (firsts_of network) k) (two_at_first k within part))) (is_counted k within part);
    of_none = λ k within none. elim (cases_lt (times_first (firsts_of network) k) 2) [
      | inl few ↦ size_at k within ∙ size_few (times_first (firsts_of network) k) few
      | inr many ↦ absurd (none (first_at_two k many))
    ];
  }

  -- two tests of what belongs to a node agree
  agree : (p q : Bool) (P : Type 0) → IsTrue p ↔ P → IsTrue q ↔ P → p ≡ q
  agree true true P f g = refl
  agree false false P f g = refl
  agree true false P f g = absurd (no_way (g.1 (f.0 refl)))
  agree false true P f g = absurd (no_way (f.1 (g.0 refl)))

  one_size : (k size other : ℕ) → IsPartSize network k size → IsPartSize network k other → size ≡ other
  one_size k size other h t =
      h.counted ∙ counted_alike h.belongs t.belongs 0 network.nodes (λ m from to.
      let inside : m < network.nodes = omega arith in
      agree (h.belongs m) (t.belongs m) (AreTogether network.list k m) (h.together m inside) (t.together m inside)) ∙ sym t.counted

  pub sizes_only : (sizes : List ℕ) → ArePartSizes network sizes → sizes ≡ sizes_of network
  sizes_only sizes h = ext_get_or 0 sizes (sizes_of network) (h.count ∙ sym sizes_right.count) (λ k within.
      let inside : k < network.nodes = omega (arith, within, h.count) in
      elim (cases_lt (times_first (firsts_of network) k) 2) [
        | inl few ↦
            let none : ¬ IsFirstOfPart network k = λ part. absurd (omega (arith, few, two_at_first k inside part)) in
            h.of_none k inside none ∙ sym (sizes_right.of_none k inside none)
        | inr many ↦ let part = first_at_two k many in one_size k (slice_index sizes k) (slice_index (sizes_of network) k) (h.of_part k inside part) (sizes_right.of_part k inside part)
      ])
