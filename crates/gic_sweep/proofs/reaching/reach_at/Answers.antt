use Rattle.std.proofs.Common.{◌≡◌, ◌*◌, arith, ap, ⊎_elim}
use Rattle.gic_model.specs.Guess.{least_conductance}
use Rattle.gic_model.specs.Voltages.{number_at}
use Rattle.gic_net.specs.Net.{standing, stands}
use Rattle.gic_sweep.specs.Residuals.{most_reach}
use Rattle.gic_sweep.proofs.Closeness.{diagonal_twice, close_at}
use Rattle.gic_sweep.proofs.reaching.reach_at.Goals as goal

pub quotient_up-requires-clause-most : goal.quotient_up-requires-clause-most
quotient_up-requires-clause-most c =
    let net = c.args.net.now in
    let twice = diagonal_twice net c.args.node.0 c.within_limits.ensures in
    let value = c.conductance.ensures.value in
    ⊎_elim
    (λ e. omega (arith, e, (c.requires.residuals.small c.args.node.0).low, twice, value))
    (λ e. omega (arith, e, (c.requires.residuals.small c.args.node.0).high, twice, value))
    c.greatest-most.ensures.either

pub returns-clause-settled : goal.returns-clause-settled
returns-clause-settled c volts x holds =
    let net = c.args.net.now in
    let k = c.args.node.0 in
    let t = c.quotient_up.result in
    let scaled : t * c.conductance.result ≡ t * least_conductance (standing net) k = ap (λ n. t * n) c.conductance.ensures.value in
    let covers = c.quotient_up.ensures.covers in
    c.settled_law.ensures net.network (stands net) volts x t k (number_at c.args.residuals.now.low k) (number_at c.args.residuals.now.high k) c.within_limits.ensures holds
    (omega (arith, scaled, covers, c.greatest-most.ensures.low)) (omega (arith, scaled, covers, c.greatest-most.ensures.high))

pub returns-clause-close : goal.returns-clause-close
returns-clause-close c volts x t holds settled =
    let net = c.args.net.now in
    let k = c.args.node.0 in
    let limits = c.within_limits.ensures in
    let value : c.conductance.result ≡ least_conductance (standing net) k = c.conductance.ensures.value in
    let scaled : most_reach t * c.conductance.result ≡ most_reach t * least_conductance (standing net) k = ap (λ n. most_reach t * n) value in
    let both = close_at net k limits volts x (number_at c.args.residuals.now.low k) (number_at c.args.residuals.now.high k) holds (c.requires.residuals.narrow k) (c.diagonal_law.ensures.at_least net.network (stands net) k limits) t settled in
    ⊎_elim
    (λ e. c.quotient_up.ensures.least (most_reach t) (omega (arith, e, both.0, scaled)))
    (λ e. c.quotient_up.ensures.least (most_reach t) (omega (arith, e, both.1, scaled)))
    c.greatest-most.ensures.either
