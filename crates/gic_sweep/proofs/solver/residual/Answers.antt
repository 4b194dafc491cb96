use Rattle.std.proofs.Common.{ℤ, List, sym, subst, subst₂}
use Rattle.gic_model.specs.Guess.{HoldsResidual}
use Rattle.gic_model.specs.Voltages.{number_at}
use Rattle.gic_net.specs.Net.{standing, stands}
use Rattle.gic_sweep.proofs.solver.residual.Goals as goal

pub returns-clause-holds : goal.returns-clause-holds
returns-clause-holds c =
    let net = c.args.net.now in
    let v = number_at c.args.volts.now in
    let k = c.args.node.0 in
    let x = number_at c.guesses.result.now in
    let holds = c.rounded_residual_law.ensures.holds net.network (stands net) v x k c.within_limits.ensures in
    let here = subst₂ (λ (a b : ℤ). HoldsResidual (standing net) v x k a b) (sym c.rounded_residual.ensures.low) (sym c.rounded_residual.ensures.high) holds in
    subst (λ (xs : List ℤ). HoldsResidual (standing net) v (number_at xs) k c.rounded_residual.result.lo c.rounded_residual.result.hi) c.guesses.ensures.value here
