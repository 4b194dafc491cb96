use Rattle.std.proofs.Common.{arith, ⊎_elim}
use Rattle.std.proofs.lemmas.Bool.{cases_lt}
use Rattle.gic_model.proofs.Ends.{live_within, standing_within}
use Rattle.gic_model.specs.Voltages.{number_at}
use Rattle.gic_net.specs.Net.{standing, stands}
use Rattle.gic_sweep.proofs.Targets.{swept_small}
use Rattle.gic_sweep.proofs.Writes.{past}
use Rattle.gic_sweep.proofs.sweeping.sweep_from.Goals as goal

pub fill-requires-clause-small : goal.fill-requires-clause-small
fill-requires-clause-small g c = λ node z inside swept. swept_small (standing c.args.net.now) (number_at c.args.volts.now) (number_at c.args.old.now) node.0 z c.requires.residuals.cut swept.1

pub returns-clause-sweep : goal.returns-clause-sweep
returns-clause-sweep g c = λ k.
    let net = c.args.net.now in
    let within = standing_within net.network (stands net) c.within_limits.ensures in
    ⊎_elim
    (λ below. (c.fill.ensures.each (record { 0 = k }) (omega (arith, below, c.requires.guesses))).1)
    (λ after. record {
      live = λ some. absurd (omega (arith, after, live_within net.network.nodes (standing net) k within some));
      dead = λ none. past c.fill.new.self c.args.old.now k (omega (arith, after, c.fill.ensures.same_length, c.requires.guesses)) (omega (arith, after, c.requires.residuals.guess_count));
    })
    (cases_lt k net.network.nodes)
