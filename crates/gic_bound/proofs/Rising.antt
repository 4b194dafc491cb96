-- What raising entries rests on.
use Rattle.std.proofs.Common.{◌≡◌, ◌⊎◌, ℕ, zero, suc, ◌+◌, ◌*◌, ◌<◌, ◌≤◌, Bool, true, false, cond, List, length, set, sum, IsTrue, IsFalse, slice_index, pos, arith, refl, ap, sym, subst, ◌∙◌, inl, inr, ⊎_elim}
use Rattle.std.specs.List.{AllByRecursion}
use Rattle.std.proofs.lemmas.Int.{ints, by_lt_z}
use Rattle.std.proofs.lemmas.Bool.{cases_lt, cases_eq}
use Rattle.std.proofs.lemmas.List.{get_or-set_same, get_or-set_other}
use Rattle.std.proofs.lemmas.List.Elements.{All-from_get_or}
use Rattle.std.proofs.lemmas.List.Sums.{sum_by-set, sum_by-le}
use Rattle.gic_model.specs.Limits.{IsElementWithin}
use Rattle.gic_model.specs.Standing.{is_live, IsLive, elements_at}
use Rattle.gic_model.specs.Sums.{Placed, sum_of}
use Rattle.gic_model.specs.Bound.{row_part, MeetsRowRule}
use Rattle.gic_model.proofs.Ends.{live_within}
use Rattle.gic_bound.specs.Raising.{IsUnderCapped, IsTooSmall}

pub no_way : false ≡ true → ⊥
no_way e = cc

-- the entry at the node k is not too small
abbrev pub IsEnough : List Placed → (ℕ → ℕ) → (ℕ → ℕ) → ℕ → Type 0
IsEnough standing cap v k = IsLive standing k → v k < cap k → MeetsRowRule standing v k

-- w is v with the entry at the node k raised by 1
abbrev pub IsRaisedAt : (ℕ → ℕ) → ℕ → (ℕ → ℕ) → Type 0
IsRaisedAt v k w = (j : ℕ) → ((j ≡ k) × (w j ≡ v k + 1)) ⊎ ((j ≡ k → ⊥) × (w j ≡ v j))

-- the same of a list in which one place is written
pub raised_list : (vs : List ℕ) (k : ℕ) → k < length vs → IsRaisedAt (slice_index vs) k (slice_index (set vs k (slice_index vs k + 1)))
raised_list vs k h j =
    ⊎_elim (λ e. inl (e, ap (slice_index (set vs k (slice_index vs k + 1))) e ∙ get_or-set_same vs k (slice_index vs k + 1) 0 h))
    (λ other. inr (other, get_or-set_other vs k j (slice_index vs k + 1) 0 other))
    (cases_eq j k)

pub raised_sum : (vs : List ℕ) (k : ℕ) → k < length vs → sum (set vs k (slice_index vs k + 1)) ≡ sum vs + 1
raised_sum vs k h = omega (arith, sum_by-set (λ x. x) vs k (slice_index vs k + 1) 0 h)

pub sum_most : (vs : List ℕ) → ((k : ℕ) → slice_index vs k ≤ 4097) → sum vs ≤ length vs * 4097
sum_most vs h = sum_by-le (λ x. x) 4097 vs (All-from_get_or (λ x. x ≤ 4097) vs 0 (λ i _. h i))

-- a sum of entries that has risen, or not
pub so_far : (b : Bool) (s t : ℕ) → (IsTrue b → s < t) → (IsFalse b → s ≤ t) → s ≤ t
so_far true s t higher not_lower = let h : s < t = higher refl in omega (arith, h)
so_far false s t higher not_lower = not_lower refl

-- one more node of a pass
pub enough_so_far : (standing : List Placed) (cap v : ℕ → ℕ) (n : ℕ) → ((k : ℕ) → k < n → IsEnough standing cap v k) → IsEnough standing cap v n → (k : ℕ) → k < n + 1 → IsEnough standing cap v k
enough_so_far standing cap v n before here k h =
    ⊎_elim (λ less. before k less) (λ same. let e : n ≡ k = omega (arith, h, same) in subst (IsEnough standing cap v) e here) (cases_lt k n)

pub live_or_dead : (standing : List Placed) (k : ℕ) → IsLive standing k ⊎ IsFalse (is_live standing k)
live_or_dead standing k = by (is_live standing k) refl
  where
    by : (b : Bool) → is_live standing k ≡ b → IsLive standing k ⊎ IsFalse (is_live standing k)
    by true e = inl e
    by false e = inr e

-- an entry is enough, or too small
decide : (standing : List Placed) (cap v : ℕ → ℕ) (k : ℕ) → IsEnough standing cap v k ⊎ IsTooSmall standing cap v k
decide standing cap v k =
    ⊎_elim
    (λ live. ⊎_elim
    (λ space. by_lt_z (sum_of (row_part v k) (elements_at standing k)) (pos 0)
    (λ fails. inr (record { live = live; space = space; row = λ holds. omega (arith, ints, fails, holds) }))
    (λ holds. inl (λ _ _. holds)))
    (λ full. inl (λ _ space. absurd (omega (arith, full, space))))
    (cases_lt (v k) (cap k)))
    (λ dead. inl (λ live. absurd (no_way (sym dead ∙ live))))
    (live_or_dead standing k)

pub enough_when_not_small : (standing : List Placed) (cap v : ℕ → ℕ) (k : ℕ) → ¬ (IsTooSmall standing cap v k) → IsEnough standing cap v k
enough_when_not_small standing cap v k not_small = ⊎_elim (λ enough. enough) (λ small. absurd (not_small small)) (decide standing cap v k)

-- a node below n whose entry is too small, if there is one
pub look : (standing : List Placed) (cap v : ℕ → ℕ) (n : ℕ) → ((k : ℕ) → k < n → IsEnough standing cap v k) ⊎ ((k : ℕ) × IsTooSmall standing cap v k)
look standing cap v zero = inl (λ k h. absurd (omega (arith, h)))
look standing cap v (suc n) =
    ⊎_elim
    (λ before. ⊎_elim (λ here. inl (λ k h. enough_so_far standing cap v n before here k (omega (arith, h)))) (λ small. inr (n, small)) (decide standing cap v n))
    (λ small. inr small)
    (look standing cap v n)

module _ (nodes : ℕ) (standing : List Placed) (within : AllByRecursion (λ p. IsElementWithin nodes p.1) standing) where
  -- 1 at live nodes and 0 at dead ones
  pub starts_under : (v : ℕ → ℕ) → ((k : ℕ) → k < nodes → v k ≡ cond (is_live standing k) 1 0) → ((k : ℕ) → nodes ≤ k → v k ≡ 0) → IsUnderCapped standing v
  starts_under v is past =
      let alive : (k : ℕ) → IsLive standing k → v k ≡ 1 = λ k live. is k (live_within nodes standing k within live) ∙ ap (λ b. cond b 1 0) live in
      let gone : (k : ℕ) → IsFalse (is_live standing k) → v k ≡ 0 = λ k dead. ⊎_elim (λ inside. is k inside ∙ ap (λ b. cond b 1 0) dead) (λ after. past k after) (cases_lt k nodes) in
      record {
        live_above_0 = λ k live. omega (arith, alive k live);
        capped = λ k. ⊎_elim (λ live. omega (arith, alive k live)) (λ dead. omega (arith, gone k dead)) (live_or_dead standing k);
        dead_0 = gone;
        under = λ other capped k. ⊎_elim (λ live. omega (arith, alive k live, capped.live_above_0 k live)) (λ dead. omega (arith, gone k dead)) (live_or_dead standing k);
      }
