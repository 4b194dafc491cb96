-- The steps of a storm: the rows of one time, in order. Under time,north,east the times rise, and each row is a step.
use Rattle.std.specs.Prelude.{◌≡◌, ℕ, ◌+◌, ◌-◌, ◌≤◌, ◌==◌, List, [], ◌∷◌, length, All, slice_index_or, if◌then◌else◌, Bool, true, not, Option, Some, None}
use Rattle.gic_storm.specs.declared.row.StormRow.{StormRow}

-- a row before steps: it joins the first of them where that has its time
abbrev pub joined : StormRow → List (List StormRow) → List (List StormRow)
joined r [] = (r ∷ []) ∷ []
joined r ([] ∷ steps) = (r ∷ []) ∷ [] ∷ steps
joined r ((next ∷ step) ∷ steps) = if r.time == next.time then (r ∷ next ∷ step) ∷ steps else (r ∷ []) ∷ (next ∷ step) ∷ steps

-- the longest runs of rows of one time
abbrev pub steps_in : List StormRow → List (List StormRow)
steps_in [] = []
steps_in (r ∷ rows) = joined r (steps_in rows)

-- the rows of a step, counted from 1
abbrev pub step_at : List StormRow → ℕ → List StormRow
step_at rows number = slice_index_or (steps_in rows) (number - 1) []

-- the time of the first of these rows
abbrev pub first_time : List StormRow → ℕ
first_time [] = 0
first_time (r ∷ rows) = r.time

-- some rows, all of one time
pub record IsStep (step : List StormRow) : Type 0 where
  pub some : 1 ≤ length step
  pub time : All (λ r. r.time ≡ first_time step) step

-- the time of a step, counted from 1
abbrev pub time_of_step : List StormRow → ℕ → ℕ
time_of_step rows number = first_time (step_at rows number)

-- whether a time is another than the one before
abbrev pub is_new : Option ℕ → ℕ → Bool
is_new None time = true
is_new (Some before) time = not (before == time)

-- the places of the rows that begin a step, numbered from here on
abbrev pub starts_from : (place : ℕ) → (before : Option ℕ) → List StormRow → List ℕ
starts_from place before [] = []
starts_from place before (r ∷ rows) =
    if is_new before r.time then place ∷ starts_from (place + 1) (Some r.time) rows else starts_from (place + 1) (Some r.time) rows
