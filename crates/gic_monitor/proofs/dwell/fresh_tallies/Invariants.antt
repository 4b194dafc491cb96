use Rattle.std.proofs.Common.{◌≡◌, ◌++◌, map, drop}
use Rattle.std.specs.List.{enumerate_from}
use Rattle.gic_monitor.specs.Tallies.{fresh_tally}
use Rattle.gic_monitor.proofs.dwell.fresh_tallies.Given as goal

-- the tallies so far and those of the units that are left are all
abbrev pub invariant-loop-unit : goal.invariant-loop-unit
invariant-loop-unit l = l.tallies.items ++ map fresh_tally (enumerate_from l.unit (drop l.unit l.units)) ≡ map fresh_tally (enumerate_from 0 l.units)
