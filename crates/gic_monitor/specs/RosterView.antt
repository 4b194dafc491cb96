-- What the views of a study are of.
use Rattle.std.specs.Prelude.{ℕ, List}
use Rattle.gic_monitor.specs.declared.roster.Seat.{Seat}
use Rattle.gic_monitor.specs.declared.roster.Rated.{Rated}

-- a threshold in mA per phase, the earthings, and the transformers
pub record RosterView : Type 0 where
  pub threshold : ℕ
  pub seats : List Seat
  pub units : List Rated
