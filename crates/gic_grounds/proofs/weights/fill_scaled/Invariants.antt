use Rattle.std.proofs.Common.{◌≡◌, ◌<◌, ℕ, length}
use Rattle.gic_model.specs.Voltages.{number_at}
use Rattle.gic_varied.specs.Reciprocal.{weights_from}
use Rattle.gic_grounds.specs.Scale.{windings_in}
use Rattle.gic_grounds.proofs.weights.fill_scaled.Given as goal

-- the elements so far have their weights
abbrev pub invariant-loop-place : goal.invariant-loop-place
invariant-loop-place l = record {
  same_length : length l.out ≡ l.count;
  filled : (k : ℕ) → k < l.place → number_at l.out k ≡ weights_from l.times (windings_in l.weights) k;
}
