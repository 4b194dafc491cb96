use Rattle.std.proofs.Common.{◌≡◌, ◌<◌, ℕ, length}
use Rattle.gic_model.specs.Voltages.{number_at}
use Rattle.gic_induce.specs.LineVolts.{volts_of}
use Rattle.gic_induce.proofs.element_volts.fill_volts.Given as goal

-- the elements so far have their voltages
abbrev pub invariant-loop-place : goal.invariant-loop-place
invariant-loop-place l = record {
  count : length l.out ≡ length l.elements;
  filled : (k : ℕ) → k < l.place → number_at l.out k ≡ number_at (volts_of l.case l.fields l.elements) k;
}
