use Rattle.std.proofs.Common.{ℕ, ◌-◌, ◌<◌, length, get_or}
use Rattle.gic_switch.specs.declared.epoch.Epoch.{Epoch}
use Rattle.gic_course.specs.Epochs.{HasStep}
use Rattle.gic_course.proofs.epochs.epoch_with.Given as goal

-- the step lies in none of the epochs so far
abbrev pub invariant-loop-place : goal.invariant-loop-place
invariant-loop-place l = (k : ℕ) → k < l.place → (d : Epoch) → HasStep l.number (get_or l.epochs k d) → ⊥

abbrev pub decreases-loop-place : goal.decreases-loop-place
decreases-loop-place l = length l.epochs - l.place
