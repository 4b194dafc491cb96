use Rattle.std.proofs.Common.{◌≡◌, ◌++◌, drop}
use Rattle.std.specs.List.{flat_map}
use Rattle.gic_review.specs.Readings.{substation_told}
use Rattle.gic_review.proofs.findings.reading.push_substations.Given as goal

-- what is told so far and what is left are all
abbrev pub invariant-loop-substation : goal.invariant-loop-substation
invariant-loop-substation l = l.findings.items ++ flat_map substation_told (drop l.substation-index l.substations) ≡ l.fn.findings.items ++ flat_map substation_told l.substations
