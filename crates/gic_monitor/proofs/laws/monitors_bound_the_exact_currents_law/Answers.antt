use Rattle.std.proofs.Common.{arith}
use Rattle.std.proofs.lemmas.List.Elements.{recursion_from_All}
use Rattle.std.proofs.lemmas.List.Sums.{count_by-le-length}
use Rattle.gic_monitor.specs.Bounds.{ShowsUnit, is_at_least}
use Rattle.gic_monitor.proofs.CountsBound.{certain_at_most, exact_at_most}
use Rattle.gic_monitor.proofs.RangeBounds.{range_encloses}
use Rattle.gic_monitor.proofs.laws.monitors_bound_the_exact_currents_law.Goals as goal

pub returns-clause-certain : goal.returns-clause-certain
returns-clause-certain c threshold unit steps shows =
    let few = certain_at_most threshold unit steps (recursion_from_All (λ step. ShowsUnit unit step.0 step.1) steps shows) in
    omega arith

pub returns-clause-possible : goal.returns-clause-possible
returns-clause-possible c threshold unit steps short shows =
    let few = exact_at_most threshold unit steps (recursion_from_All (λ step. ShowsUnit unit step.0 step.1) steps shows) in
    let exact = count_by-le-length (λ step. is_at_least threshold step.1) steps in
    omega arith

pub returns-clause-range : goal.returns-clause-range
returns-clause-range c element views view ends numerator denominator among stands encloses =
    range_encloses element views view ends numerator denominator among stands encloses
