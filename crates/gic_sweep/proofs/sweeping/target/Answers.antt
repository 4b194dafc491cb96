use Rattle.std.proofs.Common.{◌≡◌, ℕ, ℤ, pos, ◌+ℤ◌, ◌-ℤ◌, ◌*ℤ◌, ◌≤ℤ◌, ◌<ℤ◌, arith, rules, length, subst, to_z, of_z}
use Rattle.std.proofs.lemmas.Int.{ints, to_z-of_z, fits_signed_from_abs}
use mir.Syntax.{w128}
use Rattle.gic_model.specs.Guess.{diagonal, ohms_at, residual, residual_down, residual_up}
use Rattle.gic_model.specs.Voltages.{number_at}
use Rattle.gic_net.specs.Net.{standing, stands, row_at}
use Rattle.gic_sweep.proofs.Targets.{is_target}
use Rattle.gic_sweep.proofs.sweeping.target.Goals as goal

pub fall-down-requires-clause-low : goal.fall-down-requires-clause-low
fall-down-requires-clause-low c = let small = c.requires.residuals.small c.args.node.0 in omega (arith, ints, small, c.diagonal.ensures)

pub returns-clause-value : goal.returns-clause-value
returns-clause-value c =
    let net = c.args.net.now in
    let v = number_at c.args.volts.now in
    let x = number_at c.args.guesses.now in
    let k = c.args.node.0 in
    let d = diagonal (standing net) k in
    let de = c.diagonal.ensures.value in
    let low = residual_down (standing net) v x k in
    let le = c.requires.residuals.rounded k in
    let lo = number_at c.args.low.now k in
    let small = c.requires.residuals.small k in
    let same : to_z w128 (of_z w128 lo) ≡ lo = to_z-of_z w128 lo (fits_signed_from_abs w128 lo (omega (arith, small, c.diagonal.ensures))) in
    let m = c.fall-down.result in
    let g = x k in
    let t = to_z w128 (of_z w128 (to_z w128 (of_z w128 g) -ℤ to_z w128 (of_z w128 m))) in
    let below : (pos c.diagonal.result *ℤ m) ≤ℤ (pos 4096 *ℤ lo) = search (rules, same, c.fall-down.ensures.below) in
    let above : (pos 4096 *ℤ lo) <ℤ ((pos c.diagonal.result *ℤ m) +ℤ pos c.diagonal.result) = search (rules, same, c.fall-down.ensures.above) in
    let below' : (pos d *ℤ m) ≤ℤ (pos 4096 *ℤ low) = subst (λ (n : ℕ). (pos n *ℤ m) ≤ℤ (pos 4096 *ℤ low)) de (subst (λ (z : ℤ). (pos c.diagonal.result *ℤ m) ≤ℤ (pos 4096 *ℤ z)) le below) in
    let above' : (pos 4096 *ℤ low) <ℤ ((pos d *ℤ m) +ℤ pos d) = subst (λ (n : ℕ). (pos 4096 *ℤ low) <ℤ ((pos n *ℤ m) +ℤ pos n)) de (subst (λ (z : ℤ). (pos 4096 *ℤ z) <ℤ ((pos c.diagonal.result *ℤ m) +ℤ pos c.diagonal.result)) le above) in
    let te : t ≡ g -ℤ m = omega (arith, ints, c.requires.residuals.cut k, c.fall-down.ensures.small) in
    let holds = c.rounded_residual_law.ensures.holds net.network (stands net) v x k c.within_limits.ensures in
    let narrow = c.rounded_residual_law.ensures.narrow net.network (stands net) v x k c.within_limits.ensures in
    is_target d (ohms_at (standing net) k) (length (row_at net k)) low (residual_up (standing net) v x k) m g t (residual (standing net) v x k) below' above' holds.above_lo holds.below_hi narrow te
