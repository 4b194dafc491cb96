use Rattle.std.proofs.Common.{◌^◌, arith}
use Rattle.gic_fixed.specs.Ends.{ends_of}
use Rattle.gic_base_views.proofs.Bases.{once_held, narrow_from, base_within}
use Rattle.gic_base_views.proofs.intervals.base_potential.Goals as goal

pub returns-clause-holds : goal.returns-clause-holds
returns-clause-holds c stands volts holds live s solves =
    once_held c.potential_nv.result.lo c.potential_nv.result.hi (s.potential c.args.node.0) s.denominator (c.potential_nv.ensures.holds s (holds s solves c.args.node.0 live))

pub returns-clause-narrow : goal.returns-clause-narrow
returns-clause-narrow c tight = narrow_from (ends_of c.potential_nv.result) 400 (omega arith) c.potential_nv.result.ordered (c.potential_nv.ensures.tight (tight c.args.node.0))

pub returns-clause-small : goal.returns-clause-small
returns-clause-small c = base_within (2 ^ 60) c.potential_nv.result.lo c.potential_nv.result.hi (omega arith) c.potential_nv.ensures.small
