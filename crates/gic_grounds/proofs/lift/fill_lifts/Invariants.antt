use Rattle.std.proofs.Common.{◌≡◌, ◌<◌, ◌≤◌, ℕ, length, unsigned_abs}
use Rattle.gic_model.specs.Limits.{most_wide_volts}
use Rattle.gic_model.specs.Voltages.{number_at}
use Rattle.gic_grounds.specs.Corner.{is_most_at}
use Rattle.gic_grounds.specs.Lifting.{height_at, lift_at}
use Rattle.gic_grounds.proofs.lift.fill_lifts.Given as goal

-- the elements so far have their voltages
abbrev pub invariant-loop-place : goal.invariant-loop-place
invariant-loop-place l = record {
  count : length l.out ≡ length l.nets.least.network.list;
  filled : (k : ℕ) → k < l.place → number_at l.out k ≡ lift_at l.nets.least.network l.nets.most.network (height_at (is_most_at l.corner) l.side l.reference) k;
  small : (k : ℕ) → k < l.place → unsigned_abs (lift_at l.nets.least.network l.nets.most.network (height_at (is_most_at l.corner) l.side l.reference) k) ≤ most_wide_volts;
}
