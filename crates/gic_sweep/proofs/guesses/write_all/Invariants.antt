use Rattle.std.proofs.Common.{◌<◌}
use Rattle.gic_base.specs.declared.id.NodeId.{NodeId}
use Rattle.gic_model.specs.Voltages.{number_at}
use Rattle.gic_sweep.specs.Guesses.{AreCut}
use Rattle.gic_sweep.proofs.guesses.write_all.Given as goal

abbrev pub invariant-loop-node : goal.invariant-loop-node
invariant-loop-node g l = record {
  each : (node : NodeId) → node.0 < l.node → goal.F-post g l.grains node (number_at l.guesses node.0);
  cut : AreCut (number_at l.guesses);
}
