use Rattle.std.proofs.Common.{◌≡◌, ℕ, ◌^◌, ◌<◌, length}
use Rattle.gic_enclose.specs.Ends.{potential_ends, low_at, high_at}
use Rattle.gic_fixed.specs.Encloses.{IsWithin}
use Rattle.gic_model.specs.Voltages.{number_at}
use Rattle.gic_net.specs.Net.{standing}
use Rattle.gic_grounds.specs.OwnCurrent.{IsOwnCurrent}
use Rattle.gic_grounds.proofs.own.fill_own.Given as goal

abbrev pub invariant-loop-transformer : goal.invariant-loop-transformer
invariant-loop-transformer l = record {
  each : (t : ℕ) → t < l.transformer → IsOwnCurrent l.case (standing l.net) (number_at l.volts) l.potentials t (potential_ends l.out t);
  within : (t : ℕ) → t < l.transformer → IsWithin (2 ^ 80) (low_at l.out t) (high_at l.out t);
  same_count : length l.out ≡ length l.fn.out;
}
