use Rattle.std.proofs.Common.{map}
use Rattle.gic_worst.specs.Rows.{screen_row_of}
use Rattle.gic_outage.specs.Taking.{worsts_in}
use Rattle.gic_outage.proofs.Raised.{AreRaisedBelow}
use Rattle.gic_outage.proofs.raising.raise_all.Given as goal

-- the intervals so far are raised
abbrev pub invariant-loop-place : goal.invariant-loop-place
invariant-loop-place l = AreRaisedBelow (worsts_in (map screen_row_of l.rows)) l.place l.fn.greatest l.greatest
