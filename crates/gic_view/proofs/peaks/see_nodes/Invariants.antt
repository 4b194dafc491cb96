use Rattle.std.proofs.Common.{◌≡◌, None, length, option_map}
use Rattle.gic_view.specs.View.{node_at}
use Rattle.gic_view.specs.Peaks.{greater}
use Rattle.gic_view.specs.Absolute.{absolute_ends}
use Rattle.gic_view.proofs.Written.{IsWritten}
use Rattle.gic_view.proofs.peaks.see_nodes.Given as goal

abbrev pub invariant-loop-place : goal.invariant-loop-place
invariant-loop-place l = record {
  written : IsWritten (λ k. greater (node_at l.fn.peaks k) (option_map absolute_ends (node_at l.view k))) l.fn.peaks.nodes l.peaks.nodes None l.place;
  rest : l.peaks ≡ record l.fn.peaks { nodes = l.peaks.nodes };
  count : length l.peaks.nodes ≡ length l.fn.peaks.nodes;
}
