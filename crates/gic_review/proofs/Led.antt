-- Pointers that lead to first nodes, and what writing one of them keeps.
use Rattle.std.proofs.Common.{◌≡◌, ℕ, ◌<◌, ◌≤◌, List, length, set, refl, ap, sym, ◌∙◌, subst, arith, inl, inr}
use Rattle.std.specs.Prelude.{slice_index, min, max}
use Rattle.std.specs.List.{range_with_len}
use Rattle.std.proofs.lemmas.Bool.{cases_eq, cases_lt, eq-eqb, ne_eqb}
use Rattle.std.proofs.lemmas.List.{length-map, length-set, get_or-set_same, get_or-set_other}
use Rattle.std.proofs.lemmas.List.FromFn.{length-range_with_len, get_or-range_with_len}
use Rattle.gic_review.specs.Union.{first_lowered, united, ArePointers, LeadTo}
use Rattle.gic_review.proofs.Firsts.{lowered_at, lowered_both}

-- a pointer to a node that comes no later
pub pointers_set : (pointers : List ℕ) (node at : ℕ) → ArePointers pointers → at ≤ node → ArePointers (set pointers node at)
pointers_set pointers node at h low k within =
    let inside : k < length pointers = omega (arith, length-set pointers node at) in
    elim (cases_eq k node) [
      | inl here ↦
          let there : node < length pointers = subst (λ (j : ℕ). j < length pointers) here inside in
          let is : slice_index (set pointers node at) k ≡ at = ap (slice_index (set pointers node at)) here ∙ get_or-set_same pointers node at 0 there in
          omega (arith, is, low, here)
      | inr apart ↦ let is = get_or-set_other pointers node k at 0 apart in let old = h k inside in omega (arith, is, old)
    ]

-- a node's pointer at its first node leads there
pub shorter : (pointers firsts : List ℕ) (node at : ℕ) → LeadTo pointers firsts → node < length pointers → slice_index firsts node ≡ at → slice_index firsts at ≡ at → LeadTo (set pointers node at) firsts
shorter pointers firsts node at h there is first = record {
  count = length-set pointers node at ∙ h.count;
  along = λ k within. elim (cases_eq k node) [
    | inl here ↦
        let now : slice_index (set pointers node at) k ≡ at = ap (slice_index (set pointers node at)) here ∙ get_or-set_same pointers node at 0 there in
        ap (slice_index firsts) here ∙ is ∙ sym first ∙ ap (slice_index firsts) (sym now)
    | inr apart ↦
        let now : slice_index (set pointers node at) k ≡ slice_index pointers k = get_or-set_other pointers node k at 0 apart in
        h.along k (omega (arith, length-set pointers node at, within)) ∙ ap (slice_index firsts) (sym now)
  ];
  itself = λ k within own. elim (cases_eq k node) [
    | inl here ↦
        let now : slice_index (set pointers node at) k ≡ at = ap (slice_index (set pointers node at)) here ∙ get_or-set_same pointers node at 0 there in
        ap (slice_index firsts) here ∙ is ∙ sym now ∙ own
    | inr apart ↦
        let now : slice_index (set pointers node at) k ≡ slice_index pointers k = get_or-set_other pointers node k at 0 apart in
        h.itself k (omega (arith, length-set pointers node at, within)) (sym now ∙ own)
  ];
}

-- the later of two first nodes points at the earlier one, and both groups are one
module _ (pointers firsts : List ℕ) (one other a b : ℕ) (h : LeadTo pointers firsts) (a_in : a < length pointers) (b_in : b < length pointers)
    (a_is : a ≡ slice_index firsts one) (b_is : b ≡ slice_index firsts other) (a_own : slice_index firsts a ≡ a) (b_own : slice_index firsts b ≡ b) where
  united_at : (k : ℕ) → slice_index (united firsts one other) k ≡ first_lowered a b (slice_index firsts k)
  united_at k =
      lowered_at (slice_index firsts one) (slice_index firsts other) firsts k
      ∙ ap (λ (x : ℕ). first_lowered x (slice_index firsts other) (slice_index firsts k)) (sym a_is)
      ∙ ap (λ (x : ℕ). first_lowered a x (slice_index firsts k)) (sym b_is)

  -- the earlier and the later of the two are first nodes
  low_own : slice_index firsts (min a b) ≡ min a b
  low_own = elim (cases_lt a b) [
    | inl less ↦ let is : min a b ≡ a = omega arith in ap (slice_index firsts) is ∙ a_own ∙ sym is
    | inr more ↦ let is : min a b ≡ b = omega arith in ap (slice_index firsts) is ∙ b_own ∙ sym is
  ]

  high_own : slice_index firsts (max a b) ≡ max a b
  high_own = elim (cases_lt a b) [
    | inl less ↦ let is : max a b ≡ b = omega arith in ap (slice_index firsts) is ∙ b_own ∙ sym is
    | inr more ↦ let is : max a b ≡ a = omega arith in ap (slice_index firsts) is ∙ a_own ∙ sym is
  ]

  high_in : max a b < length pointers
  high_in = elim (cases_lt a b) [ inl less ↦ omega arith | inr more ↦ omega arith ]

  low_le : min a b ≤ max a b
  low_le = elim (cases_lt a b) [ inl less ↦ omega arith | inr more ↦ omega arith ]

  -- the earlier one stays
  lowered_low : first_lowered a b (min a b) ≡ min a b
  lowered_low = elim (cases_lt a b) [
    | inl less ↦ let is : min a b ≡ a = omega arith in ap (first_lowered a b) is ∙ (lowered_both a b).0
    | inr more ↦ let is : min a b ≡ b = omega arith in ap (first_lowered a b) is ∙ (lowered_both a b).1
  ]

  -- and stands in place of the later one
  lowered_high : first_lowered a b (max a b) ≡ min a b
  lowered_high = rw (eq-eqb (max a b) (max a b) refl) refl

  pub low_united : slice_index (united firsts one other) (min a b) ≡ min a b
  low_united = united_at (min a b) ∙ ap (first_lowered a b) low_own ∙ lowered_low

  pub one_united : slice_index (united firsts one other) one ≡ min a b
  one_united = united_at one ∙ ap (first_lowered a b) (sym a_is) ∙ (lowered_both a b).0

  pub other_united : slice_index (united firsts one other) other ≡ min a b
  other_united = united_at other ∙ ap (first_lowered a b) (sym b_is) ∙ (lowered_both a b).1

  high_united : slice_index (united firsts one other) (max a b) ≡ min a b
  high_united = united_at (max a b) ∙ ap (first_lowered a b) high_own ∙ lowered_high

  pub linked : LeadTo (set pointers (max a b) (min a b)) (united firsts one other)
  linked = record {
    count = length-set pointers (max a b) (min a b) ∙ h.count ∙ sym (length-map firsts (first_lowered (slice_index firsts one) (slice_index firsts other)));
    along = λ k within. elim (cases_eq k (max a b)) [
      | inl here ↦
          let now : slice_index (set pointers (max a b) (min a b)) k ≡ min a b = ap (slice_index (set pointers (max a b) (min a b))) here ∙ get_or-set_same pointers (max a b) (min a b) 0 high_in in
          ap (slice_index (united firsts one other)) here ∙ high_united ∙ sym low_united ∙ ap (slice_index (united firsts one other)) (sym now)
      | inr apart ↦
          let now : slice_index (set pointers (max a b) (min a b)) k ≡ slice_index pointers k = get_or-set_other pointers (max a b) k (min a b) 0 apart in
          united_at k ∙ ap (first_lowered a b) (h.along k (omega (arith, length-set pointers (max a b) (min a b), within))) ∙ sym (united_at (slice_index pointers k))
          ∙ ap (slice_index (united firsts one other)) (sym now)
    ];
    itself = λ k within own. elim (cases_eq k (max a b)) [
      | inl here ↦
          let now : slice_index (set pointers (max a b) (min a b)) k ≡ min a b = ap (slice_index (set pointers (max a b) (min a b))) here ∙ get_or-set_same pointers (max a b) (min a b) 0 high_in in
          ap (slice_index (united firsts one other)) here ∙ high_united ∙ sym now ∙ own
      | inr apart ↦
          let now : slice_index (set pointers (max a b) (min a b)) k ≡ slice_index pointers k = get_or-set_other pointers (max a b) k (min a b) 0 apart in
          let old : slice_index firsts k ≡ k = h.itself k (omega (arith, length-set pointers (max a b) (min a b), within)) (sym now ∙ own) in
          united_at k ∙ ap (first_lowered a b) old ∙ rw (ne_eqb k (max a b) apart) refl
    ];
  }

-- and both nodes point at the first of all
module _ (pointers : List ℕ) (one other a b low high : ℕ) (one_in : one < length pointers) (other_in : other < length pointers) (a_low : a ≤ one) (b_low : b ≤ other)
    (low_is : low ≡ min a b) (high_is : high ≡ max a b) where
  least : (min a b ≤ a) × (min a b ≤ b) × (min a b ≤ max a b)
  least = elim (cases_lt a b) [ inl less ↦ (omega arith, omega arith, omega arith) | inr more ↦ (omega arith, omega arith, omega arith) ]

  pub united_pointers : ArePointers pointers → ArePointers (set (set (set pointers high low) one low) other low)
  united_pointers h =
      let first = pointers_set pointers high low h (omega (arith, low_is, high_is, least.2)) in
      let second = pointers_set (set pointers high low) one low first (omega (arith, low_is, least.0, a_low)) in
      pointers_set (set (set pointers high low) one low) other low second (omega (arith, low_is, least.1, b_low))

  pub united_lead : (firsts : List ℕ) → LeadTo pointers firsts → a ≡ slice_index firsts one → b ≡ slice_index firsts other → slice_index pointers a ≡ a → slice_index pointers b ≡ b
      → LeadTo (set (set (set pointers high low) one low) other low) (united firsts one other)
  united_lead firsts h a_is b_is a_end b_end =
      let a_in : a < length pointers = omega (arith, a_low, one_in) in
      let b_in : b < length pointers = omega (arith, b_low, other_in) in
      let a_own = h.itself a a_in a_end in
      let b_own = h.itself b b_in b_end in
      let base = linked pointers firsts one other a b h a_in b_in a_is b_is a_own b_own in
      let lowest = low_united pointers firsts one other a b h a_in b_in a_is b_is a_own b_own in
      let at_one = one_united pointers firsts one other a b h a_in b_in a_is b_is a_own b_own in
      let at_other = other_united pointers firsts one other a b h a_in b_in a_is b_is a_own b_own in
      let start : LeadTo (set pointers high low) (united firsts one other) =
      subst (λ (x : ℕ). LeadTo (set pointers high x) (united firsts one other)) (sym low_is) (subst (λ (y : ℕ). LeadTo (set pointers y (min a b)) (united firsts one other)) (sym high_is) base) in
      let low_own : slice_index (united firsts one other) low ≡ low = ap (slice_index (united firsts one other)) low_is ∙ lowest ∙ sym low_is in
      let second = shorter (set pointers high low) (united firsts one other) one low start (omega (arith, length-set pointers high low, one_in)) (at_one ∙ sym low_is) low_own in
      shorter (set (set pointers high low) one low) (united firsts one other) other low second
      (omega (arith, length-set (set pointers high low) one low, length-set pointers high low, other_in)) (at_other ∙ sym low_is) low_own

-- each node on its own
pub own_lead : (nodes : ℕ) → LeadTo (range_with_len 0 nodes) (range_with_len 0 nodes)
own_lead nodes =
    let at : (k : ℕ) → k < nodes → slice_index (range_with_len 0 nodes) k ≡ k = λ k within. omega (arith, get_or-range_with_len 0 nodes k 0 within) in
    let count = length-range_with_len 0 nodes in
    record {
      count = refl;
      along = λ k within. ap (slice_index (range_with_len 0 nodes)) (sym (at k (omega (arith, within, count))));
      itself = λ k within own. own;
    }

pub own_pointers : (nodes : ℕ) → ArePointers (range_with_len 0 nodes)
own_pointers nodes k within =
    let count = length-range_with_len 0 nodes in
    let at = get_or-range_with_len 0 nodes k 0 (omega (arith, within, count)) in
    omega (arith, at)
