use Rattle.std.proofs.Common.{ℤ, ◌≤◌, ◌^◌, arith, sym, subst₂}
use Rattle.std.proofs.lemmas.Bool.Decides.{nat_tests}
use Rattle.gic_model.specs.Guess.{HoldsResidual}
use Rattle.gic_model.specs.Voltages.{number_at}
use Rattle.gic_net.specs.Net.{standing, stands}
use Rattle.gic_sweep.specs.Residuals.{HoldResiduals}
use Rattle.gic_sweep.proofs.Closeness.{settled_more}
use Rattle.gic_sweep.proofs.settling.are_settled.Goals as goal

-- the residuals of the guesses lie between the ends
held : (c : goal.After-reach_between) → HoldResiduals (standing c.args.net.now) (number_at c.args.volts.now) (number_at c.args.guesses.now) c.find.new.self
held c = λ k.
    let net = c.args.net.now in
    let v = number_at c.args.volts.now in
    let x = number_at c.args.guesses.now in
    subst₂ (λ (a b : ℤ). HoldsResidual (standing net) v x k a b) (sym (c.find.ensures.low k)) (sym (c.find.ensures.high k))
    (c.rounded_residual_law.ensures.holds net.network (stands net) v x k c.within_limits.ensures)

pub returns-clause-settled : goal.returns-clause-settled
returns-clause-settled c h =
    let net = c.args.net.now in
    let v = number_at c.args.volts.now in
    let x = number_at c.args.guesses.now in
    let few : c.reach_between.result ≤ 2 ^ 18 = grind (arith, nat_tests, h) in
    λ k live. settled_more (standing net) v x k c.reach_between.result (2 ^ 18) few (c.reach_between.ensures.settled v x (held c) k live)

pub returns-clause-seen : goal.returns-clause-seen
returns-clause-seen c near =
    let v = number_at c.args.volts.now in
    let x = number_at c.args.guesses.now in
    let few : c.reach_between.result ≤ 2 ^ 18 = omega (arith, c.reach_between.ensures.close v x (2 ^ 17) (held c) near) in
    grind (arith, nat_tests, few)
