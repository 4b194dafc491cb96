-- The ends of the nodes' intervals, in grains.
use Rattle.std.specs.Prelude.{ℕ, ◌≡◌, List, length, ℤ, slice_index_or}
use Rattle.std.specs.List.{All}
use Rattle.gic_fixed.specs.Encloses.{IsWithin}
use Rattle.gic_fixed.specs.declared.interval.Interval.{Interval}
use Rattle.gic_fixed.specs.Ends.{Ends, zero_ends}
use Rattle.gic_model.specs.Guess.{most_guess}
use Rattle.gic_sweep.specs.ResidualEnds.{ResidualEnds, node_count}

-- the ends at the node k, and each of them
abbrev pub potential_ends : List Ends → ℕ → Ends
potential_ends potentials k = slice_index_or potentials k zero_ends

abbrev pub low_at : List Ends → ℕ → ℤ
low_at potentials k = (potential_ends potentials k).low

abbrev pub high_at : List Ends → ℕ → ℤ
high_at potentials k = (potential_ends potentials k).high

-- all ends are within the limit of guesses, either way
abbrev pub AreSmall : List Interval → Type 0
AreSmall intervals = All (λ interval. IsWithin most_guess interval.lo interval.hi) intervals

-- what potentials keep: small intervals, and space for the residuals of as many nodes
pub record AreIntervals (intervals : List Interval) (residuals : ResidualEnds) : Type 0 where
  pub small : AreSmall intervals
  pub space : node_count residuals ≡ length intervals
