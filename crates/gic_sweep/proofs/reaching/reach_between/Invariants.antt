use Rattle.std.proofs.Common.{ℕ, ℤ, ◌<◌, ◌≤◌, ◌^◌}
use Rattle.gic_model.specs.Standing.{IsLive}
use Rattle.gic_model.specs.Guess.{IsSettledWithin, IsSettledAt}
use Rattle.gic_net.specs.Net.{standing}
use Rattle.gic_sweep.specs.Residuals.{HoldResiduals, most_reach}
use Rattle.gic_sweep.proofs.reaching.reach_between.Given as goal

abbrev pub invariant-loop-node : goal.invariant-loop-node
invariant-loop-node l = record {
  settled : (volts x : ℕ → ℤ) → HoldResiduals (standing l.net) volts x l.residuals → (k : ℕ) → k < l.node → IsLive (standing l.net) k → IsSettledAt (standing l.net) volts x l.most k;
  small : l.most ≤ 2 ^ 99;
  close : (volts x : ℕ → ℤ) (t : ℕ) → HoldResiduals (standing l.net) volts x l.residuals → IsSettledWithin (standing l.net) volts x t → l.most ≤ most_reach t;
}
