use Rattle.std.proofs.Common.{◌≡◌, map, take}
use Rattle.gic_study_mode.specs.Roster.{rated_of}
use Rattle.gic_study_mode.proofs.roster.units_of.Given as goal

-- the units so far
abbrev pub invariant-loop-transformer : goal.invariant-loop-transformer
invariant-loop-transformer l = l.units.items ≡ map rated_of (take l.transformer-index l.case.transformers)
