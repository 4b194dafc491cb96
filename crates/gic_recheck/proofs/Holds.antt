-- What a certificate shows of the nodes of a network for which it passes.
use Rattle.std.proofs.Common.{◌≡◌, ℕ, ◌<◌, Bool, true, false, if◌then◌else◌, ℤ, pos, ◌+ℤ◌, ◌-ℤ◌, Some, None, option_map, sym}
use Rattle.gic_model.specs.declared.parts.Item.{Item}
use Rattle.gic_model.specs.Limits.{IsWithinLimits}
use Rattle.gic_model.specs.Network.{Network}
use Rattle.gic_model.specs.Standing.{is_live, standing_elements}
use Rattle.gic_cert.specs.Laws.{PassingHoldsPotentials}
use Rattle.gic_cert.specs.Passing.{IsPassing}
use Rattle.gic_cert.specs.Written.{Certificate, is_written, guess_of, radius_of}
use Rattle.gic_effective.specs.RightView.{IsRightNode}
use Rattle.gic_effective.proofs.Currents.{potential_holds}
use Rattle.gic_recheck.specs.RightRecheck.{in_millivolts, potential_of}

-- by whether numbers are written of the node
by_written : PassingHoldsPotentials → (network : Network) (stands : Item → Bool) (volts : ℕ → ℤ) (c : Certificate) (k : ℕ)
    → IsWithinLimits network → IsPassing network.nodes (standing_elements network stands) volts c
    → (written : Bool) → is_live (standing_elements network stands) k ≡ written
    → IsRightNode (standing_elements network stands) volts k
    (option_map in_millivolts (if written then Some (record { low = guess_of c k -ℤ pos (radius_of c k); high = guess_of c k +ℤ pos (radius_of c k) }) else None))
by_written law network stands volts c k limits passes false is = is
by_written law network stands volts c k limits passes true is = (
  is,
  (λ s solves. potential_holds (guess_of c k -ℤ pos (radius_of c k)) (guess_of c k +ℤ pos (radius_of c k)) (s.potential k) s.denominator
      (law network stands volts c s k limits passes solves is)),
)

-- each interval holds the potential of its node in every solution
pub shows_right : PassingHoldsPotentials → (network : Network) (stands : Item → Bool) (volts : ℕ → ℤ) (c : Certificate)
    → IsWithinLimits network → IsPassing network.nodes (standing_elements network stands) volts c
    → (k : ℕ) → k < network.nodes → IsRightNode (standing_elements network stands) volts k (potential_of c k)
shows_right law network stands volts c limits passes k within =
    by_written law network stands volts c k limits passes (is_written c k) (sym (passes.placed.live k within))
