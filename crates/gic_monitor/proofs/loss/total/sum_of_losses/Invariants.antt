use Rattle.std.proofs.Common.{◌≡◌, ◌*◌, ◌^◌, pos, ◌+ℤ◌, ◌≤ℤ◌, drop}
use Rattle.std.specs.List.{enumerate_from}
use Rattle.gic_fixed.specs.Sums.{sum_of}
use Rattle.gic_monitor.specs.LossText.{unit_loss, least_loss, most_loss}
use Rattle.gic_monitor.proofs.loss.total.sum_of_losses.Given as goal

-- the total so far and what the units that are left draw are the whole; it doesn't fall below 0, and grows by 2^102 a
-- unit at most
abbrev pub invariant-loop-unit : goal.invariant-loop-unit
invariant-loop-unit l = record {
  low : l.total.lo +ℤ sum_of (λ unit. (unit_loss l.view unit).low) (enumerate_from l.unit (drop l.unit l.factors)) ≡ least_loss l.factors l.view;
  high : l.total.hi +ℤ sum_of (λ unit. (unit_loss l.view unit).high) (enumerate_from l.unit (drop l.unit l.factors)) ≡ most_loss l.factors l.view;
  least : pos 0 ≤ℤ l.total.lo;
  most : l.total.hi ≤ℤ pos (l.unit * 2 ^ 102);
}
