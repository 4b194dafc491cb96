-- Each step has a row, and all its rows have one time.
use Rattle.std.proofs.Common.{◌≡◌, ℕ, ◌-◌, ◌≤◌, ◌==◌, List, [], ◌∷◌, length, All, true, refl, sym, arith, subst, inl, inr}
use Rattle.std.proofs.lemmas.Bool.{cases_Bool}
use Rattle.std.proofs.lemmas.Bool.Decides.{nat_tests}
use Rattle.std.proofs.lemmas.List.Elements.{All-from_recursion, All-nil, All-cons}
use Rattle.std.specs.List.{AllByRecursion}
use Rattle.gic_storm.specs.Steps.{joined, steps_in, step_at, time_of_step, IsStep}
use Rattle.gic_storm.specs.declared.row.StormRow.{StormRow}

-- all of these rows have the time
abbrev pub HaveTime : ℕ → List StormRow → Type 0
HaveTime t rows = All (λ r. r.time ≡ t) rows

-- one row is a step
one_row : (r : StormRow) → IsStep (r ∷ [])
one_row r = record { some = omega arith; time = All-cons (λ q. q.time ≡ r.time) r [] refl (All-nil (λ q. q.time ≡ r.time)) }

-- and one more of the same time
row_more : (r next : StormRow) (step : List StormRow) → r.time ≡ next.time → IsStep (next ∷ step) → IsStep (r ∷ next ∷ step)
row_more r next step h all = record { some = omega arith; time = All-cons (λ q. q.time ≡ r.time) r (next ∷ step) refl (subst (λ t. HaveTime t (next ∷ step)) (sym h) all.time) }

pub same_time : (a b : ℕ) → (a == b) ≡ true → a ≡ b
same_time a b h = grind (arith, nat_tests, h)

joined_steps : (r : StormRow) (steps : List (List StormRow)) → AllByRecursion IsStep steps → AllByRecursion IsStep (joined r steps)
joined_steps r [] all = (one_row r, tt)
joined_steps r ([] ∷ steps) all = (one_row r, all)
joined_steps r ((next ∷ step) ∷ steps) all = elim (cases_Bool (r.time == next.time)) [
  | inl same ↦ rw same (row_more r next step (same_time r.time next.time same) all.0, all.1)
  | inr other ↦ rw other (one_row r, all)
]

by_recursion : (rows : List StormRow) → AllByRecursion IsStep (steps_in rows)
by_recursion [] = tt
by_recursion (r ∷ rows) = joined_steps r (steps_in rows) (by_recursion rows)

-- each of the runs is a step
pub steps_are : (rows : List StormRow) → All IsStep (steps_in rows)
steps_are rows = All-from_recursion IsStep (steps_in rows) (by_recursion rows)

step_is : (rows : List StormRow) (number : ℕ) → 1 ≤ number → number ≤ length (steps_in rows) → IsStep (step_at rows number)
step_is rows number least most = steps_are rows (number - 1) [] (omega arith)

-- a step has a row
pub some_row : (rows : List StormRow) (number : ℕ) → 1 ≤ number → number ≤ length (steps_in rows) → 1 ≤ length (step_at rows number)
some_row rows number least most = (step_is rows number least most).some

-- all its rows have its time
pub one_time : (rows : List StormRow) (number : ℕ) → 1 ≤ number → number ≤ length (steps_in rows) → HaveTime (time_of_step rows number) (step_at rows number)
one_time rows number least most = (step_is rows number least most).time
