use Rattle.std.proofs.Common.{◌≡◌, ℕ, ◌<◌, ℤ, length}
use Rattle.gic_net.specs.Net.{standing}
use Rattle.gic_view.specs.View.{node_at}
use Rattle.gic_effective.specs.Shown.{IsShownNode}
use Rattle.gic_effective.proofs.view.fill_nodes.Given as goal

abbrev pub invariant-loop-node : goal.invariant-loop-node
invariant-loop-node l = record {
  shown : (volts : ℕ → ℤ) (k : ℕ) → k < l.node → IsShownNode (standing l.net) volts l.potentials k (node_at l.out k);
  rest : l.out ≡ record l.fn.out { nodes = l.out.nodes };
  count : length l.out.nodes ≡ length l.fn.out.nodes;
}
