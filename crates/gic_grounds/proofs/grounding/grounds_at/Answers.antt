use Rattle.std.proofs.Common.{sym, subst}
use Rattle.gic_model.specs.Limits.{IsWithinLimits}
use Rattle.gic_grounds.proofs.Extremes.{extreme_within, pushed_is}
use Rattle.gic_grounds.proofs.grounding.grounds_at.Goals as goal

pub new-requires : goal.new-requires
new-requires c =
    let is = pushed_is c.args.extreme c.args.case.now c.args.percent c.args.elements.now c.nodes.result c.list.result.now c.new-list.result.items c.push_grounded.new.list.items
    c.requires.elements c.nodes.ensures.value c.list.ensures.value c.new-list.ensures.items c.in_ok-push_grounded.ensures in
    subst IsWithinLimits (sym is) (extreme_within c.args.extreme c.args.case.now c.args.percent c.other_grounds_law.ensures.limits (subst IsWithinLimits c.requires.elements c.within_limits.ensures))
