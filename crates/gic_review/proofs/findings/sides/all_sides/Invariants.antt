use Rattle.std.proofs.Common.{◌≡◌, ◌++◌, drop}
use Rattle.std.specs.List.{flat_map}
use Rattle.gic_review.specs.Sides.{rated_sides_of}
use Rattle.gic_review.proofs.findings.sides.all_sides.Given as goal

-- the sides so far and those that are left are all
abbrev pub invariant-loop-transformer : goal.invariant-loop-transformer
invariant-loop-transformer l = l.sides.items ++ flat_map rated_sides_of (drop l.transformer-index l.transformers) ≡ flat_map rated_sides_of l.transformers
