-- A written certificate: a field, and of each live node an entry of a bound vector, a guess and a radius.
use Rattle.std.specs.Prelude.{ℕ, ◌≤◌, Bool, List, Option, None, Some, IfSome, is_some, ℤ, pos, ◌+ℤ◌, ◌-ℤ◌, unsigned_abs, slice_index_or, if◌then◌else◌}
use Rattle.std.specs.Option.{option_map_or}
use Rattle.gic_base.specs.declared.limits.TheConstants.{MOST_FIELD, MOST_WALK}
use Rattle.gic_fixed.specs.Ends.{Ends}
use Rattle.gic_cert.specs.declared.limits.TheConstants.{MOST_WRITTEN_GUESS, MOST_WRITTEN_RADIUS}

-- what is written of a live node; the guess and the radius are in grains of 2^-36 nanovolt
pub record Written : Type 0 where
  pub entry : ℕ
  pub guess : ℤ
  pub radius : ℕ

-- the field in mV/km, and what is written of each node in node order, None where the node is dead
pub record Certificate : Type 0 where
  pub north : ℤ
  pub east : ℤ
  pub nodes : List (Option Written)

-- the numbers of a live node are in their ranges
pub record IsWrittenNode (w : Written) : Type 0 where
  pub entry_some : 1 ≤ w.entry
  pub entry_most : w.entry ≤ MOST_WALK
  pub guess : unsigned_abs w.guess ≤ MOST_WRITTEN_GUESS
  pub radius : w.radius ≤ MOST_WRITTEN_RADIUS

-- all numbers are in their ranges
pub record IsWritten (c : Certificate) : Type 0 where
  pub north : unsigned_abs c.north ≤ MOST_FIELD
  pub east : unsigned_abs c.east ≤ MOST_FIELD
  pub each : (k : ℕ) → IfSome (slice_index_or c.nodes k None) IsWrittenNode

-- what is written of the node k
abbrev pub written_at : Certificate → ℕ → Option Written
written_at c k = slice_index_or c.nodes k None

-- whether numbers are written of it
abbrev pub is_written : Certificate → ℕ → Bool
is_written c k = is_some (written_at c k)

-- the entry of the node k, 0 where none is written
abbrev pub entry_of : Certificate → ℕ → ℕ
entry_of c k = option_map_or (λ w. w.entry) (written_at c k) 0

-- its guess
abbrev pub guess_of : Certificate → ℕ → ℤ
guess_of c k = option_map_or (λ w. w.guess) (written_at c k) (pos 0)

-- its radius
abbrev pub radius_of : Certificate → ℕ → ℕ
radius_of c k = option_map_or (λ w. w.radius) (written_at c k) 0

-- the numbers that are no further than the radius from the guess, at a node that numbers are written of
abbrev pub interval_of : Certificate → ℕ → Option Ends
interval_of c k =
    if is_written c k
    then Some (record { low = guess_of c k -ℤ pos (radius_of c k); high = guess_of c k +ℤ pos (radius_of c k) })
    else None
