-- The times of the steps rise where those of the rows do not fall, and each row is a step where they rise.
use Rattle.std.proofs.Common.{◌≡◌, ℕ, zero, suc, ◌+◌, ◌≤◌, ◌<◌, ◌==◌, List, [], ◌∷◌, map, false, refl, sym, subst, arith, inl, inr}
use Rattle.std.specs.Prelude.{⊤}
use Rattle.std.specs.List.Sorted.{IsNonDecreasingBy, IsStrictlyIncreasing}
use Rattle.std.proofs.lemmas.Bool.{cases_Bool}
use Rattle.std.proofs.lemmas.Bool.Decides.{nat_tests}
use Rattle.gic_storm.specs.Steps.{joined, steps_in, first_time}
use Rattle.gic_storm.specs.declared.row.StormRow.{StormRow}
use Rattle.gic_storm.proofs.Cuts.{head_of}
use Rattle.gic_storm.proofs.StepRows.{same_time}

-- the numbers rise, by neighbours
abbrev Rise : List ℕ → Type 0
Rise [] = ⊤
Rise (t ∷ []) = ⊤
Rise (t ∷ u ∷ ts) = (t < u) × Rise (u ∷ ts)

rise_law : (ts : List ℕ) → Rise ts → IsStrictlyIncreasing ts
rise_law [] h k within = absurd (omega arith)
rise_law (t ∷ []) h k within = absurd (omega arith)
rise_law (t ∷ u ∷ ts) h zero within = h.0
rise_law (t ∷ u ∷ ts) h (suc k) within = let next : suc k + 1 ≡ suc (k + 1) = omega arith in rw next (rise_law (u ∷ ts) h.1 k (omega arith))

same_first : (t u : ℕ) (ts : List ℕ) → t ≡ u → Rise (u ∷ ts) → Rise (t ∷ ts)
same_first t u ts h rise = subst (λ n. Rise (n ∷ ts)) (sym h) rise

other_time : (a b : ℕ) → (a == b) ≡ false → a ≤ b → a < b
other_time a b h le = grind (arith, nat_tests, h, le)

apart : (a b : ℕ) → a < b → (a == b) ≡ false
apart a b h = grind (arith, nat_tests, h)

next_rows : (r : StormRow) (rows : List StormRow) → IsNonDecreasingBy (λ q. q.time) (r ∷ rows) → IsNonDecreasingBy (λ q. q.time) rows
next_rows r rows h i j d up within = h (suc i) (suc j) d (omega arith) (omega arith)

step_times : (rows : List StormRow) → IsNonDecreasingBy (λ q. q.time) rows → Rise (map first_time (steps_in rows))
step_times [] h = tt
step_times (r ∷ []) h = tt
step_times (r ∷ s ∷ rows) h =
    let (g, gs, shape) = head_of s (steps_in rows) in
    after g gs shape (step_times (s ∷ rows) (next_rows r (s ∷ rows) h))
  where
    after : (g : List StormRow) (gs : List (List StormRow)) → joined s (steps_in rows) ≡ (s ∷ g) ∷ gs
        → Rise (map first_time (joined s (steps_in rows))) → Rise (map first_time (joined r (joined s (steps_in rows))))
    after g gs shape ih = rw shape (elim (cases_Bool (r.time == s.time)) [
      | inl same ↦ rw same (same_first r.time s.time (map first_time gs) (same_time r.time s.time same) (rw shape at ih))
      | inr other ↦ rw other (other_time r.time s.time other (h 0 1 r (omega arith) (omega arith)), rw shape at ih)
    ])

-- the times of the steps rise
pub times_rise_law : (rows : List StormRow) → IsNonDecreasingBy (λ q. q.time) rows → IsStrictlyIncreasing (map first_time (steps_in rows))
times_rise_law rows h = rise_law (map first_time (steps_in rows)) (step_times rows h)

next_times : (t : ℕ) (ts : List ℕ) → IsStrictlyIncreasing (t ∷ ts) → IsStrictlyIncreasing ts
next_times t ts h k within = let next : suc k + 1 ≡ suc (k + 1) = omega arith in rw next at (h (suc k) (omega arith))

-- each row is a step
pub rows_alone : (rows : List StormRow) → IsStrictlyIncreasing (map (λ r. r.time) rows) → steps_in rows ≡ map (λ r. r ∷ []) rows
rows_alone [] h = refl
rows_alone (r ∷ []) h = refl
rows_alone (r ∷ s ∷ rows) h =
    let rest = rows_alone (s ∷ rows) (next_times r.time (map (λ q. q.time) (s ∷ rows)) h) in
    rw (rest, apart r.time s.time (h 0 (omega arith))) refl
