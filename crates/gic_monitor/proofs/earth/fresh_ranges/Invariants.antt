use Rattle.std.proofs.Common.{◌≡◌, ◌++◌, map, drop}
use Rattle.gic_monitor.specs.Ranges.{fresh_range}
use Rattle.gic_monitor.proofs.earth.fresh_ranges.Given as goal

-- the ranges so far and those of the earthings that are left are all
abbrev pub invariant-loop-seat : goal.invariant-loop-seat
invariant-loop-seat l = l.ranges.items ++ map fresh_range (drop l.seat-index l.seats) ≡ map fresh_range l.seats
