use Rattle.std.proofs.Common.{sym, ◌∙◌}
use Rattle.gic_sweep.proofs.reaching.greater_reach.Goals as goal

pub returns-else-here-most-clause-close : goal.returns-else-here-most-clause-close
returns-else-here-most-clause-close c = λ volts x t holds settled less. c.reach_at-here.ensures.close volts x t holds (settled c.args.node.0 (sym c.live.ensures ∙ c.if-live.true))
