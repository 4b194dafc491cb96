use Rattle.std.proofs.Common.{ℕ, ◌<◌}
use Rattle.gic_model.specs.Standing.{IsLive}
use Rattle.gic_model.specs.Voltages.{number_at}
use Rattle.gic_net.specs.Net.{standing}
use Rattle.gic_superpose.specs.Superposed.{zone_at}
use Rattle.gic_superpose.specs.Rows.{row_at, AreRowsOf}
use Rattle.gic_base_views.specs.BaseRows.{IsCertifiedPair}
use Rattle.gic_base_views.specs.Table.{OthersStay}
use Rattle.gic_base_views.proofs.writing.write_nodes.Given as goal

abbrev pub invariant-loop-node : goal.invariant-loop-node
invariant-loop-node l = record {
  certified : (k : ℕ) → k < l.node → IsLive (standing l.net) k → IsCertifiedPair (standing l.net) (number_at l.north.volts) (number_at l.east.volts) (λ s. s.potential k) 1 (zone_at (row_at l.rows k) l.zone);
  others : OthersStay l.zone l.fn.rows l.rows;
  shape : AreRowsOf l.fn.rows.places l.fn.rows.zones l.rows;
}
