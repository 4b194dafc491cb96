-- Pointers that are turned to first nodes one after another.
use Rattle.std.proofs.Common.{◌≡◌, All, ℕ, zero, suc, ◌+◌, ◌<◌, ◌≤◌, List, [], ◌∷◌, ◌++◌, length, set, ap, sym, ◌∙◌, arith, inl, inr}
use Rattle.std.specs.Prelude.{slice_index}
use Rattle.std.specs.List.{range_with_len}
use Rattle.std.proofs.lemmas.Bool.{cases_eq, cases_lt}
use Rattle.std.proofs.lemmas.List.{get_or-set_same, get_or-set_other, ext_get_or}
use Rattle.std.proofs.lemmas.List.Elements.{All-from_get_or}
use Rattle.gic_review.specs.Union.{ArePointers, LeadTo}
use Rattle.gic_review.proofs.Led.{pointers_set}

-- the next pointer is turned to what it points at points at
module _ (old now : List ℕ) (i : ℕ) (i_in : i < length old) (count : length now ≡ length old) (pointers : ArePointers now)
    (ahead : (k : ℕ) → i ≤ k → slice_index now k ≡ slice_index old k) where
  abbrev next : ℕ
  next = slice_index now i

  abbrev value : ℕ
  value = slice_index now next

  next_le : next ≤ i
  next_le = pointers i (omega (arith, i_in, count))

  value_le : value ≤ i
  value_le = let low = next_le in let more = pointers next (omega (arith, i_in, count, low)) in omega (arith, low, more)

  pub turned_pointers : ArePointers (set now i value)
  turned_pointers = pointers_set now i value pointers value_le

  pub turned_ahead : (k : ℕ) → i + 1 ≤ k → slice_index (set now i value) k ≡ slice_index old k
  turned_ahead k past = get_or-set_other now i k value 0 (λ e. absurd (omega (arith, e, past))) ∙ ahead k (omega (arith, past))

  turned_here : (firsts : List ℕ) → LeadTo old firsts → ((k : ℕ) → k < i → slice_index now k ≡ slice_index firsts k) → value ≡ slice_index firsts i
  turned_here firsts h behind =
      let is : next ≡ slice_index old i = ahead i (omega arith) in
      let low = next_le in
      elim (cases_lt next i) [
        | inl less ↦ behind next less ∙ ap (slice_index firsts) is ∙ sym (h.along i i_in)
        | inr more ↦
            let itself : next ≡ i = omega (arith, low, more) in
            ap (slice_index now) itself ∙ itself ∙ sym (h.itself i i_in (sym is ∙ itself))
      ]

  pub turned_behind : (firsts : List ℕ) → LeadTo old firsts → ((k : ℕ) → k < i → slice_index now k ≡ slice_index firsts k) → (k : ℕ) → k < i + 1 → slice_index (set now i value) k ≡ slice_index firsts k
  turned_behind firsts h behind k before = elim (cases_eq k i) [
    | inl here ↦
        let there : i < length now = omega (arith, i_in, count) in
        ap (slice_index (set now i value)) here ∙ get_or-set_same now i value 0 there ∙ turned_here firsts h behind ∙ ap (slice_index firsts) (sym here)
    | inr other ↦ get_or-set_other now i k value 0 other ∙ behind k (omega (arith, before, other))
  ]

-- all are turned
pub all_turned : (now firsts : List ℕ) (i : ℕ) → length now ≡ length firsts → length now ≤ i → ((k : ℕ) → k < i → slice_index now k ≡ slice_index firsts k) → now ≡ firsts
all_turned now firsts i count past behind = ext_get_or 0 now firsts count (λ k within. behind k (omega (arith, within, past)))

-- one more number of a range
pub range_more : (low n : ℕ) → range_with_len low (n + 1) ≡ range_with_len low n ++ (low + n) ∷ []
range_more low zero = ap (λ k. k ∷ []) (omega arith)
range_more low (suc n) =
    let step : suc n + 1 ≡ suc (n + 1) = omega arith in
    let next : low + 1 + n ≡ low + suc n = omega arith in
    ap (range_with_len low) step ∙ ap (λ l. low ∷ l) (range_more (low + 1) n) ∙ ap (λ k. low ∷ (range_with_len (low + 1) n ++ k ∷ [])) next

pub range_next : (n : ℕ) → range_with_len 0 (n + 1) ≡ range_with_len 0 n ++ n ∷ []
range_next n = let same : 0 + n ≡ n = omega arith in range_more 0 n ∙ ap (λ (k : ℕ). range_with_len 0 n ++ k ∷ []) same

-- pointers point at nodes
pub pointers_inside : (pointers : List ℕ) → ArePointers pointers → All (λ at. at < length pointers) pointers
pointers_inside pointers h = All-from_get_or (λ at. at < length pointers) pointers 0 (λ i within. let low = h i within in omega (arith, low, within))
