use Rattle.std.proofs.Common.{◌≡◌, take}
use Rattle.std.specs.List.{sum_by}
use Rattle.gic_net.specs.Net.{row_at}
use Rattle.gic_sweep.proofs.Conductances.{floor_part}
use Rattle.gic_sweep.proofs.node_sums.conductance.Given as goal

abbrev pub invariant-loop-place : goal.invariant-loop-place
invariant-loop-place l = l.sum ≡ sum_by floor_part (take l.place (row_at l.net l.node.0))
