use Rattle.std.proofs.Common.{take}
use Rattle.gic_net.specs.Rows.{AreFullRows}
use Rattle.gic_net.proofs.rows.full_rows.Given as goal

abbrev pub invariant-loop-place : goal.invariant-loop-place
invariant-loop-place l = AreFullRows l.nodes (take l.place l.list) l.rows.items
