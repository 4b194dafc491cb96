-- The states so far, and those that follow from the last one, are all.
use Rattle.std.proofs.Common.{◌≡◌, ◌-◌, ◌++◌}
use Rattle.gic_make.specs.Generator.{states_after}
use Rattle.gic_make.proofs.generator.states_after.Given as goal

abbrev pub invariant-loop : goal.invariant-loop
invariant-loop l = l.states.items ++ states_after l.state (l.count - l.counter) ≡ states_after l.fn.seed l.count
