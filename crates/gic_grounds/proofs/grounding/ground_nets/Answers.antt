use Rattle.std.proofs.Common.{subst}
use Rattle.gic_model.specs.Limits.{IsWithinLimits}
use Rattle.gic_grounds.proofs.Extremes.{modest_extremes}
use Rattle.gic_grounds.proofs.grounding.ground_nets.Goals as goal

pub invariant_of-result : goal.invariant_of-result
invariant_of-result c = record {
  modest = modest_extremes c.args.case.now c.args.percent c.in_ok-least.least.network c.in_ok-most.most.network
      c.keeps_rules.ensures (subst IsWithinLimits c.requires.elements c.within_limits.ensures) c.requires.percent c.in_ok-least.ensures.network c.in_ok-most.ensures.network;
}
