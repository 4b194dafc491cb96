use Rattle.std.proofs.Common.{◌≡◌, drop}
use Rattle.gic_case.specs.Names.{place_from, place_in}
use Rattle.gic_storm.specs.StormView.{zone_names}
use Rattle.gic_storm.proofs.column.place_in.Given as goal

-- the names that are left decide
abbrev pub invariant-loop-i : goal.invariant-loop-i
invariant-loop-i l = place_from l.i (zone_names (drop l.i l.zones)) l.name ≡ place_in (zone_names l.zones) l.name
