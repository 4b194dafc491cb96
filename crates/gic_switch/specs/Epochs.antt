-- The epochs of a storm under switchings.
use Rattle.std.specs.Prelude.{⊤, ℕ, ◌+◌, ◌≤◌, ◌≡◌, ◌≢◌, List, [], ◌∷◌, length, take}
use Rattle.std.specs.List.{AllByRecursion}
use Rattle.gic_storm.specs.declared.row.StormRow.{StormRow}
use Rattle.gic_storm.specs.Steps.{steps_in, time_of_step}
use Rattle.gic_model.specs.declared.parts.Switching.{Switching}
use Rattle.gic_model.specs.Standing.{rows_in_force}
use Rattle.gic_switch.specs.declared.epoch.Epoch.{Epoch}

-- the epochs follow one another and cover the steps from one to another, each once
abbrev pub Cover : (from last : ℕ) → List Epoch → Type 0
Cover from last [] = last + 1 ≡ from
Cover from last (e ∷ es) = (e.first ≡ from) × (from ≤ e.last) × Cover (e.last + 1) last es

-- the rows in force at a time are the first `through`, and no others
pub record AreInForce (rows : List Switching) (time through : ℕ) : Type 0 where
  pub within : through ≤ length rows
  pub first_rows : rows_in_force time rows ≡ take through rows

-- at each step of an epoch the first rows that it tells are in force
abbrev pub HoldsIn : List StormRow → List Switching → Epoch → Type 0
HoldsIn storm rows e = (number : ℕ) → e.first ≤ number → number ≤ e.last → AreInForce rows (time_of_step storm number) e.through

-- an epoch with other switchings in force than this many comes next, and so on
abbrev pub DifferFrom : (through : ℕ) → List Epoch → Type 0
DifferFrom through [] = ⊤
DifferFrom through (e ∷ es) = (through ≢ e.through) × DifferFrom e.through es

-- neighbours differ in the switchings in force, so no epoch can be longer
abbrev pub Longest : List Epoch → Type 0
Longest [] = ⊤
Longest (e ∷ es) = DifferFrom e.through es

-- the epochs of a storm in order
pub record AreEpochs (storm : List StormRow) (rows : List Switching) (es : List Epoch) : Type 0 where
  pub cover : Cover 1 (length (steps_in storm)) es
  pub in_force : AllByRecursion (HoldsIn storm rows) es
  pub longest : Longest es
