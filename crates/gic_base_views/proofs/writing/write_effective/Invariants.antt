use Rattle.std.proofs.Common.{ℕ, ◌<◌}
use Rattle.gic_model.specs.Voltages.{number_at}
use Rattle.gic_net.specs.Net.{standing}
use Rattle.gic_superpose.specs.Superposed.{zone_at}
use Rattle.gic_superpose.specs.Rows.{row_at, AreRowsOf}
use Rattle.gic_base_views.specs.BaseRows.{IsCertifiedEffective}
use Rattle.gic_base_views.specs.Table.{OthersStay}
use Rattle.gic_base_views.proofs.writing.write_effective.Given as goal

abbrev pub invariant-loop-transformer : goal.invariant-loop-transformer
invariant-loop-transformer l = record {
  certified : (t : ℕ) → t < l.transformer → IsCertifiedEffective l.case (standing l.net) (number_at l.north.volts) (number_at l.east.volts) t (zone_at (row_at l.rows t) l.zone);
  others : OthersStay l.zone l.fn.rows l.rows;
  shape : AreRowsOf l.fn.rows.places l.fn.rows.zones l.rows;
}
