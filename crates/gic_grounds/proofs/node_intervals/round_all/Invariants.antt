use Rattle.std.proofs.Common.{◌≡◌, ◌++◌, map, take, drop}
use Rattle.gic_fixed.specs.Ends.{ends_of}
use Rattle.gic_varied.specs.Certified.{in_units}
use Rattle.gic_grounds.proofs.node_intervals.round_all.Given as goal

-- the intervals behind are in units, and those ahead are as they were
abbrev pub invariant-loop-interval : goal.invariant-loop-interval
invariant-loop-interval l =
    map ends_of l.interval-items
    ≡ map (in_units l.unit) (take l.interval-index (map ends_of l.initial.interval-items)) ++ drop l.interval-index (map ends_of l.initial.interval-items)
