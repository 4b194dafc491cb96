-- The ends of the intervals that hold the residuals, by the places of the nodes.
use Rattle.std.specs.Prelude.{ℕ, ◌≡◌, ◌*◌, ◌^◌, List, length, replicate, ℤ, pos}
use Rattle.gic_fixed.specs.Encloses.{IsWithin}
use Rattle.gic_fixed.specs.Ends.{IsAtMostWide}
use Rattle.gic_model.specs.Guess.{diagonal}
use Rattle.gic_model.specs.Voltages.{number_at}
use Rattle.gic_net.specs.Net.{NetView, standing, row_at}

-- the low ends, and as many high ends
pub record ResidualEnds : Type 0 where
  pub low : List ℤ
  pub high : List ℤ

-- how many nodes they are for
abbrev pub node_count : ResidualEnds → ℕ
node_count ends = length ends.low

-- for this many nodes, ends that are all 0
abbrev pub zero_residuals : ℕ → ResidualEnds
zero_residuals nodes = record { low = replicate nodes (pos 0); high = replicate nodes (pos 0) }

-- each node of the net has two ends, no further apart than it has standing elements, and within 2^86 times its diagonal, either way
pub record AreEndsFor (net : NetView) (ends : ResidualEnds) : Type 0 where
  pub count : node_count ends ≡ net.network.nodes
  pub narrow : (k : ℕ) → IsAtMostWide (length (row_at net k)) (number_at ends.low k) (number_at ends.high k)
  pub small : (k : ℕ) → IsWithin (diagonal (standing net) k * 2 ^ 86) (number_at ends.low k) (number_at ends.high k)
