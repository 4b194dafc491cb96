-- The first nodes that are found are those of what chains join.
use Rattle.std.proofs.Common.{◌≡◌, ◌⊎◌, ℕ, zero, suc, ◌<◌, ◌≤◌, true, false, ◌&&◌, ◌==◌, List, [], ◌∷◌, ◌++◌, length, map, refl, ap, sym, ◌∙◌, subst, arith, inl, inr, eqb-true, append_assoc, append-nil}
use Rattle.std.specs.Prelude.{slice_index, fold, min, max}
use Rattle.std.specs.List.{AllByRecursion, range_with_len}
use Rattle.std.proofs.lemmas.Bool.{or_cases, or_left, and_parts, and_from, cases_eq, cases_lt, eq-eqb, ne_eqb}
use Rattle.std.proofs.lemmas.List.{length-map}
use Rattle.std.proofs.lemmas.List.FromFn.{length-range_with_len, get_or-range_with_len}
use Rattle.gic_model.specs.declared.parts.End.{End}
use Rattle.gic_model.specs.declared.parts.End.TheVariants.{Node, Earth}
use Rattle.gic_model.specs.declared.parts.Element.{Element}
use Rattle.gic_model.specs.Network.{Network, is_node}
use Rattle.gic_model.specs.Limits.{IsWithinLimits, IsElementWithin, IsEndWithin}
use Rattle.gic_model.specs.Earthing.{joins}
use Rattle.gic_review.specs.Chains.{HasElementBetween, AreTogether}
use Rattle.gic_review.specs.Union.{first_lowered, united, united_to, firsts_with, firsts_of}
use Rattle.gic_review.proofs.Chained.{together_itself, together_by, together_then, together_turned, together_more, joined_last, joined_split}

no_way : false ≡ true → ⊥
no_way e = cc

-- the lower of two numbers in place of both: another number stays, and of the two one becomes the other or stays
pub lowered_cases : (a b x : ℕ) → (first_lowered a b x ≡ x) ⊎ (((x ≡ a) × (first_lowered a b x ≡ b)) ⊎ ((x ≡ b) × (first_lowered a b x ≡ a)))
lowered_cases a b x = elim (cases_eq x (max a b)) [
  | inl top ↦ by top (rw (eq-eqb x (max a b) top) refl) (cases_lt a b)
  | inr other ↦ inl (rw (ne_eqb x (max a b) other) refl)
]
  where
    by : x ≡ max a b → first_lowered a b x ≡ min a b → (a < b) ⊎ (b ≤ a) → (first_lowered a b x ≡ x) ⊎ (((x ≡ a) × (first_lowered a b x ≡ b)) ⊎ ((x ≡ b) × (first_lowered a b x ≡ a)))
    by top low (inl h) = let y : ℕ = first_lowered a b x in let lows : y ≡ min a b = low in inr (inr (omega arith, omega arith))
    by top low (inr h) = let y : ℕ = first_lowered a b x in let lows : y ≡ min a b = low in inr (inl (omega arith, omega arith))

-- it is one number of both
lowest : (a b x : ℕ) → (x ≡ a) ⊎ (x ≡ b) → (x ≡ max a b → ⊥) → x ≡ min a b
lowest a b x (inl e) other = elim (cases_lt a b) [ inl h ↦ omega arith | inr h ↦ absurd (other (omega arith)) ]
lowest a b x (inr e) other = elim (cases_lt a b) [ inl h ↦ absurd (other (omega arith)) | inr h ↦ omega arith ]

lowered_one : (a b x : ℕ) → (x ≡ a) ⊎ (x ≡ b) → first_lowered a b x ≡ min a b
lowered_one a b x is = elim (cases_eq x (max a b)) [
  | inl top ↦ rw (eq-eqb x (max a b) top) refl
  | inr other ↦ rw (ne_eqb x (max a b) other) (lowest a b x is other)
]

pub lowered_both : (a b : ℕ) → (first_lowered a b a ≡ min a b) × (first_lowered a b b ≡ min a b)
lowered_both a b = (lowered_one a b a (inl refl), lowered_one a b b (inr refl))

pub lowered_le : (a b x : ℕ) → first_lowered a b x ≤ x
lowered_le a b x = elim (cases_eq x (max a b)) [
  | inl top ↦ rw (eq-eqb x (max a b) top) (omega arith)
  | inr other ↦ rw (ne_eqb x (max a b) other) (omega arith)
]

-- past the end it is 0 before and after
pub lowered_at : (a b : ℕ) (xs : List ℕ) (k : ℕ) → slice_index (map (first_lowered a b) xs) k ≡ first_lowered a b (slice_index xs k)
lowered_at a b [] k = let h = lowered_le a b 0 in omega (arith, h)
lowered_at a b (x ∷ xs) zero = refl
lowered_at a b (x ∷ xs) (suc k) = lowered_at a b xs k

-- the list has the first node of each, as far as these elements join them
pub record AreFirsts (nodes : ℕ) (es : List Element) (firsts : List ℕ) : Type 0 where
  pub count : length firsts ≡ nodes
  pub least : (k : ℕ) → k < nodes → slice_index firsts k ≤ k
  pub itself : (k : ℕ) → k < nodes → slice_index firsts (slice_index firsts k) ≡ slice_index firsts k
  pub joined : (k m : ℕ) → HasElementBetween es k m → slice_index firsts k ≡ slice_index firsts m
  pub together : (k : ℕ) → k < nodes → AreTogether es k (slice_index firsts k)

-- one more element between two nodes
module _ (nodes : ℕ) (es : List Element) (firsts : List ℕ) (h : AreFirsts nodes es firsts) (e : Element) (to : ℕ) (from_in : e.from.0 < nodes) (to_in : to < nodes)
    (ends : (k m : ℕ) → joins k m e ≡ true → ((k ≡ e.from.0) × (m ≡ to)) ⊎ ((k ≡ to) × (m ≡ e.from.0))) (runs : joins e.from.0 to e ≡ true) where
  abbrev a : ℕ
  a = slice_index firsts e.from.0

  abbrev b : ℕ
  b = slice_index firsts to

  new_at : (k : ℕ) → slice_index (united firsts e.from.0 to) k ≡ first_lowered a b (slice_index firsts k)
  new_at k = lowered_at a b firsts k

  new_least : (k : ℕ) → k < nodes → slice_index (united firsts e.from.0 to) k ≤ k
  new_least k within = omega (arith, new_at k, lowered_le a b (slice_index firsts k), h.least k within)

  itself_at : (x : ℕ) → slice_index firsts x ≡ x → slice_index (united firsts e.from.0 to) (first_lowered a b x) ≡ first_lowered a b x
  itself_at x is = elim (lowered_cases a b x) [
    | inl same ↦ new_at (first_lowered a b x) ∙ ap (λ (y : ℕ). first_lowered a b (slice_index firsts y)) same ∙ ap (first_lowered a b) is
    | inr (inl first) ↦
        let low : min a b ≡ b = sym (lowered_both a b).0 ∙ ap (first_lowered a b) (sym first.0) ∙ first.1 in
        new_at (first_lowered a b x) ∙ ap (λ (y : ℕ). first_lowered a b (slice_index firsts y)) first.1 ∙ ap (first_lowered a b) (h.itself to to_in) ∙ (lowered_both a b).1 ∙ low ∙ sym first.1
    | inr (inr second) ↦
        let low : min a b ≡ a = sym (lowered_both a b).1 ∙ ap (first_lowered a b) (sym second.0) ∙ second.1 in
        new_at (first_lowered a b x) ∙ ap (λ (y : ℕ). first_lowered a b (slice_index firsts y)) second.1 ∙ ap (first_lowered a b) (h.itself e.from.0 from_in) ∙ (lowered_both a b).0 ∙ low ∙ sym second.1
  ]

  new_itself : (k : ℕ) → k < nodes → slice_index (united firsts e.from.0 to) (slice_index (united firsts e.from.0 to) k) ≡ slice_index (united firsts e.from.0 to) k
  new_itself k within =
      ap (slice_index (united firsts e.from.0 to)) (new_at k) ∙ itself_at (slice_index firsts k) (h.itself k within) ∙ sym (new_at k)

  both_ends : first_lowered a b a ≡ first_lowered a b b
  both_ends = (lowered_both a b).0 ∙ sym (lowered_both a b).1

  step_joined : (k m : ℕ) → HasElementBetween (es ++ e ∷ []) k m → first_lowered a b (slice_index firsts k) ≡ first_lowered a b (slice_index firsts m)
  step_joined k m j = elim (joined_split es e k m j) [
    | inl before ↦ ap (first_lowered a b) (h.joined k m before)
    | inr last ↦ elim (ends k m last) [
      | inl one ↦ ap (λ (n : ℕ). first_lowered a b (slice_index firsts n)) one.0 ∙ both_ends ∙ ap (λ (n : ℕ). first_lowered a b (slice_index firsts n)) (sym one.1)
      | inr other ↦ ap (λ (n : ℕ). first_lowered a b (slice_index firsts n)) other.0 ∙ sym both_ends ∙ ap (λ (n : ℕ). first_lowered a b (slice_index firsts n)) (sym other.1)
    ]
  ]

  new_joined : (k m : ℕ) → HasElementBetween (es ++ e ∷ []) k m → slice_index (united firsts e.from.0 to) k ≡ slice_index (united firsts e.from.0 to) m
  new_joined k m j = new_at k ∙ step_joined k m j ∙ sym (new_at m)

  -- from the first node of the one end to that of the other
  across : AreTogether (es ++ e ∷ []) a b
  across =
      together_then (es ++ e ∷ []) a e.from.0 b (together_more es (e ∷ []) a e.from.0 (together_turned es e.from.0 a (h.together e.from.0 from_in)))
      (together_then (es ++ e ∷ []) e.from.0 to b (together_by (es ++ e ∷ []) e.from.0 to (joined_last es e e.from.0 to runs)) (together_more es (e ∷ []) to b (h.together to to_in)))

  lowered_together : (k x : ℕ) → AreTogether es k x → AreTogether (es ++ e ∷ []) k (first_lowered a b x)
  lowered_together k x t =
      let before = together_more es (e ∷ []) k x t in
      elim (lowered_cases a b x) [
        | inl same ↦ subst (AreTogether (es ++ e ∷ []) k) (sym same) before
        | inr (inl first) ↦ subst (AreTogether (es ++ e ∷ []) k) (sym first.1) (together_then (es ++ e ∷ []) k a b (subst (AreTogether (es ++ e ∷ []) k) first.0 before) across)
        | inr (inr second) ↦
            subst (AreTogether (es ++ e ∷ []) k) (sym second.1)
            (together_then (es ++ e ∷ []) k b a (subst (AreTogether (es ++ e ∷ []) k) second.0 before) (together_turned (es ++ e ∷ []) a b across))
      ]

  new_together : (k : ℕ) → k < nodes → AreTogether (es ++ e ∷ []) k (slice_index (united firsts e.from.0 to) k)
  new_together k within = subst (AreTogether (es ++ e ∷ []) k) (sym (new_at k)) (lowered_together k (slice_index firsts k) (h.together k within))

  pub one_joined : AreFirsts nodes (es ++ e ∷ []) (united firsts e.from.0 to)
  one_joined = record {
    count = length-map firsts (first_lowered a b) ∙ h.count;
    least = new_least;
    itself = new_itself;
    joined = new_joined;
    together = new_together;
  }

-- an element that runs to earth
earth_joins : (t : End) (x m k : ℕ) → t ≡ Earth → (((x == k) && is_node t m) ≡ true) ⊎ (((x == m) && is_node t k) ≡ true) → ⊥
earth_joins (Node n) x m k is j = absurd (let f : Node n ≡ Earth = is in cc)
earth_joins Earth x m k is (inl j) = no_way (and_parts (x == k) false j).1
earth_joins Earth x m k is (inr j) = no_way (and_parts (x == m) false j).1

one_earthed : (nodes : ℕ) (es : List Element) (firsts : List ℕ) (e : Element) → AreFirsts nodes es firsts → e.to ≡ Earth → AreFirsts nodes (es ++ e ∷ []) firsts
one_earthed nodes es firsts e h is = record {
  count = h.count;
  least = h.least;
  itself = h.itself;
  joined = λ k m j. elim (joined_split es e k m j) [
    | inl before ↦ h.joined k m before
    | inr last ↦ absurd (earth_joins e.to e.from.0 m k is (or_cases ((e.from.0 == k) && is_node e.to m) ((e.from.0 == m) && is_node e.to k) last))
  ];
  together = λ k within. together_more es (e ∷ []) k (slice_index firsts k) (h.together k within);
}

-- the ends of an element that runs to a node
runs_between : (x k m to : ℕ) (t : End) → ((n : ℕ) → is_node t n ≡ true → n ≡ to) → (((x == k) && is_node t m) ≡ true) ⊎ (((x == m) && is_node t k) ≡ true)
    → ((k ≡ x) × (m ≡ to)) ⊎ ((k ≡ to) × (m ≡ x))
runs_between x k m to t only (inl j) = let p = and_parts (x == k) (is_node t m) j in inl (sym (eqb-true x k p.0), only m p.1)
runs_between x k m to t only (inr j) = let p = and_parts (x == m) (is_node t k) j in inr (only k p.1, sym (eqb-true x m p.0))

one_more : (nodes : ℕ) (es : List Element) (firsts : List ℕ) (e : Element) (t : End) → e.to ≡ t → IsElementWithin nodes e → AreFirsts nodes es firsts → AreFirsts nodes (es ++ e ∷ []) (united_to firsts e.from.0 t)
one_more nodes es firsts e (Node n) is within h =
    let to_in : n.0 < nodes = subst (IsEndWithin nodes) is within.to_end in
    let only : (k : ℕ) → is_node e.to k ≡ true → k ≡ n.0 = λ k at. sym (eqb-true n.0 k (ap (λ t. is_node t k) (sym is) ∙ at)) in
    let there : is_node e.to n.0 ≡ true = ap (λ t. is_node t n.0) is ∙ eq-eqb n.0 n.0 refl in
    one_joined nodes es firsts h e n.0 within.from_node to_in
    (λ k m j. runs_between e.from.0 k m n.0 e.to only (or_cases ((e.from.0 == k) && is_node e.to m) ((e.from.0 == m) && is_node e.to k) j))
    (or_left ((e.from.0 == e.from.0) && is_node e.to n.0) ((e.from.0 == n.0) && is_node e.to e.from.0) (and_from (e.from.0 == e.from.0) (is_node e.to n.0) (eq-eqb e.from.0 e.from.0 refl) there))
one_more nodes es firsts e Earth is within h = one_earthed nodes es firsts e h is

-- and all that come
all_more : (nodes : ℕ) (es more : List Element) (firsts : List ℕ) → AllByRecursion (IsElementWithin nodes) more → AreFirsts nodes es firsts → AreFirsts nodes (es ++ more) (fold firsts_with firsts more)
all_more nodes es [] firsts within h = subst (λ (l : List Element). AreFirsts nodes l firsts) (sym (append-nil es)) h
all_more nodes es (e ∷ more) firsts within h =
    subst (λ (l : List Element). AreFirsts nodes l (fold firsts_with (firsts_with firsts e) more)) (append_assoc es (e ∷ []) more)
    (all_more nodes (es ++ e ∷ []) more (firsts_with firsts e) within.1 (one_more nodes es firsts e e.to refl within.0 h))

-- without an element each node is the first of its own
none_yet : (nodes : ℕ) → AreFirsts nodes [] (range_with_len 0 nodes)
none_yet nodes =
    let at : (k : ℕ) → k < nodes → slice_index (range_with_len 0 nodes) k ≡ k = λ k within. omega (arith, get_or-range_with_len 0 nodes k 0 within) in
    record {
      count = length-range_with_len 0 nodes;
      least = λ k within. omega (arith, at k within);
      itself = λ k within. ap (slice_index (range_with_len 0 nodes)) (at k within);
      joined = λ k m j. absurd (no_way j);
      together = λ k within. subst (AreTogether [] k) (sym (at k within)) (together_itself [] k);
    }

pub firsts_found : (network : Network) → IsWithinLimits network → AreFirsts network.nodes network.list (firsts_of network)
firsts_found network limits = all_more network.nodes [] network.list (range_with_len 0 network.nodes) limits.each_element (none_yet network.nodes)
