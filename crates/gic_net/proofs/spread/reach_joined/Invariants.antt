use Rattle.std.proofs.Common.{◌≡◌, ◌⊎◌, ◌<◌, ℕ, List, ◌++◌}
use Rattle.gic_model.specs.Standing.{other_end}
use Rattle.gic_model.specs.Earthing.{IsJoined}
use Rattle.gic_net.specs.Net.{standing, placed_at}
use Rattle.gic_net.specs.Scratch.{IsReached}
use Rattle.gic_net.specs.Spread.{IsReachedEnd}
use Rattle.gic_net.proofs.spread.reach_joined.Given as goal

abbrev pub invariant-loop-place : goal.invariant-loop-place
invariant-loop-place l = record {
  nodes : l.scratch.nodes ≡ l.fn.scratch.nodes;
  more : (more : List ℕ) × (l.scratch.reached ≡ l.fn.scratch.reached ++ more);
  each : (j : ℕ) → j < l.place → IsReachedEnd l.scratch.reached (other_end l.node.0 (placed_at l.net l.node.0 j).1);
  no_other : (m : ℕ) → IsReached l.scratch.reached m → IsReached l.fn.scratch.reached m ⊎ IsJoined (standing l.net) l.node.0 m;
}
