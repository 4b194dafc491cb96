-- A certificate by its columns, as the type keeps them: entries, guesses and radii by node, where a dead node has 0 in each.
use Rattle.std.specs.Prelude.{ℕ, zero, suc, ◌≡◌, ◌≤◌, List, Option, None, Some, length, map, ℤ, pos, unsigned_abs, slice_index}
use Rattle.std.specs.List.{enumerate_from}
use Rattle.gic_base.specs.declared.limits.TheConstants.{MOST_FIELD, MOST_WALK}
use Rattle.gic_model.specs.Voltages.{number_at}
use Rattle.gic_cert.specs.declared.limits.TheConstants.{MOST_WRITTEN_GUESS, MOST_WRITTEN_RADIUS}
use Rattle.gic_cert.specs.Written.{Written}

-- what a node with these numbers has: nothing where its entry is 0
abbrev pub written_of : ℕ → ℤ → ℕ → Option Written
written_of zero x r = None
written_of (suc v) x r = Some (record { entry = suc v; guess = x; radius = r })

-- what each node has
abbrev pub written_rows : List ℕ → List ℤ → List ℕ → List (Option Written)
written_rows entries guesses radii = map (λ p. written_of p.1 (number_at guesses p.0) (slice_index radii p.0)) (enumerate_from 0 entries)

-- what the type keeps: all numbers in their ranges, and 0 alone at dead nodes
pub record IsKept (north east : ℤ) (entries : List ℕ) (guesses : List ℤ) (radii : List ℕ) : Type 0 where
  pub north_range : unsigned_abs north ≤ MOST_FIELD
  pub east_range : unsigned_abs east ≤ MOST_FIELD
  pub guess_count : length guesses ≡ length entries
  pub radius_count : length radii ≡ length entries
  pub entry_range : (k : ℕ) → slice_index entries k ≤ MOST_WALK
  pub guess_range : (k : ℕ) → unsigned_abs (number_at guesses k) ≤ MOST_WRITTEN_GUESS
  pub radius_range : (k : ℕ) → slice_index radii k ≤ MOST_WRITTEN_RADIUS
  pub dead_guess : (k : ℕ) → slice_index entries k ≡ 0 → number_at guesses k ≡ pos 0
  pub dead_radius : (k : ℕ) → slice_index entries k ≡ 0 → slice_index radii k ≡ 0
