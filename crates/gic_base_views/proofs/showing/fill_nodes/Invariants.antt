use Rattle.std.proofs.Common.{◌≡◌, ℕ, ◌<◌, length}
use Rattle.gic_model.specs.Standing.{is_live}
use Rattle.gic_net.specs.Net.{standing}
use Rattle.gic_view.specs.View.{node_at}
use Rattle.gic_superpose.specs.Rows.{row_at}
use Rattle.gic_superpose.specs.Superposed.{superposed}
use Rattle.gic_base_views.specs.Superposed.{shown_where}
use Rattle.gic_base_views.proofs.showing.fill_nodes.Given as goal

abbrev pub invariant-loop-node : goal.invariant-loop-node
invariant-loop-node l = record {
  shown : (k : ℕ) → k < l.node → node_at l.out k ≡ shown_where (is_live (standing l.net) k) (superposed l.fields (row_at l.rows k));
  rest : l.out ≡ record l.fn.out { nodes = l.out.nodes };
  count : length l.out.nodes ≡ length l.fn.out.nodes;
}
