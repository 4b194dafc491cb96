use Rattle.std.proofs.Common.{arith}
use Rattle.gic_fixed.specs.Ends.{ends_of}
use Rattle.gic_effective.specs.Ohm.{most_current}
use Rattle.gic_base_views.proofs.Bases.{once_held, narrow_from, base_within}
use Rattle.gic_base_views.proofs.intervals.base_current.Goals as goal

pub returns-clause-holds : goal.returns-clause-holds
returns-clause-holds c holds s solves =
    once_held c.tight_current_na.result.lo c.tight_current_na.result.hi (s.current c.args.element.0) s.denominator (c.tight_current_na.ensures.holds s solves (holds s solves))

pub returns-clause-narrow : goal.returns-clause-narrow
returns-clause-narrow c tight = narrow_from (ends_of c.tight_current_na.result) 400 (omega arith) c.tight_current_na.result.ordered (c.tight_current_na.ensures.tight tight)

pub returns-clause-small : goal.returns-clause-small
returns-clause-small c = base_within most_current c.tight_current_na.result.lo c.tight_current_na.result.hi (omega arith) c.tight_current_na.ensures.small
