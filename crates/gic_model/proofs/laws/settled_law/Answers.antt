use Rattle.std.proofs.Common.{◌≡◌, ℕ, ◌*◌, ◌^◌, ◌≤◌, pos, ◌*ℤ◌, unsigned_abs, arith, ap, sym, subst}
use Rattle.gic_model.specs.Standing.{standing_elements, elements_at}
use Rattle.gic_model.specs.Guess.{residual, ohms_at, least_conductance, conductance}
use Rattle.gic_fixed.proofs.Integers.{linear}
use Rattle.gic_model.proofs.Conductance.{natural}
use Rattle.gic_model.proofs.Settled.{rounded_down, settled_between}
use Rattle.gic_model.proofs.laws.settled_law.Goals as goal

pub returns : goal.returns
returns c network stands volts x t k lo hi limits holds small_lo small_hi =
    let standing = standing_elements network stands in
    let g = natural (elements_at standing k) in
    let total : conductance standing k ≡ pos g.0 = g.1 in
    let size = ap unsigned_abs total in
    let down = rounded_down (elements_at standing k) in
    let scaled = ap (λ z. pos (2 ^ 20) *ℤ z) total in
    let parts : ohms_at standing k * least_conductance standing k ≤ 1048576 * g.0 = omega (arith, linear) in
    let bound = settled_between (residual standing volts x k) lo hi (ohms_at standing k) t (least_conductance standing k) g.0 holds.above_lo holds.below_hi small_lo small_hi parts in
    subst (λ (z : ℕ). unsigned_abs (residual standing volts x k) ≤ t * z) (sym size) bound
