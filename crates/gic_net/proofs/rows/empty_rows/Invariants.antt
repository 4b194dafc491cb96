use Rattle.std.proofs.Common.{◌≡◌, [], replicate}
use Rattle.gic_net.specs.Row.{full_row}
use Rattle.gic_net.proofs.rows.empty_rows.Given as goal

abbrev pub invariant-loop-node : goal.invariant-loop-node
invariant-loop-node l = l.rows.items ≡ replicate l._node (full_row [])
