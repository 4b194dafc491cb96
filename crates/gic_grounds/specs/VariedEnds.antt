-- The two ends of a varied potential.
use Rattle.gic_fixed.specs.Ends.{Ends}
use Rattle.gic_grounds.specs.declared.varied.VariedEnds.{VariedEnds}

-- as they are written
abbrev pub ends_seen : VariedEnds → Ends
ends_seen ends = record { low = ends.low; high = ends.high }
