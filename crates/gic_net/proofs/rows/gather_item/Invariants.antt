use Rattle.std.proofs.Common.{◌-◌, ℕ, length}
use Rattle.gic_net.specs.ItemIndex.{IsNextOf}
use Rattle.gic_net.specs.Rows.{AreGatheredFor}
use Rattle.gic_net.proofs.rows.gather_item.Given as goal

abbrev pub invariant-loop-place : goal.invariant-loop-place
invariant-loop-place l = record {
  is_next : (from : ℕ) × IsNextOf l.list l.number from l.place;
  gathered : AreGatheredFor l.list l.opened l.number l.place l.fn.rows l.rows;
}

abbrev pub decreases-loop-place : goal.decreases-loop-place
decreases-loop-place l = length l.list - l.place
