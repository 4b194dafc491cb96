use Rattle.std.proofs.Common.{◌≡◌, ◌++◌, drop}
use Rattle.std.specs.List.{flat_map}
use Rattle.gic_review.specs.Readings.{zone_told}
use Rattle.gic_review.proofs.findings.reading.push_zones.Given as goal

-- what is told so far and what is left are all
abbrev pub invariant-loop-zone : goal.invariant-loop-zone
invariant-loop-zone l = l.findings.items ++ flat_map zone_told (drop l.zone-index l.zones) ≡ l.fn.findings.items ++ flat_map zone_told l.zones
