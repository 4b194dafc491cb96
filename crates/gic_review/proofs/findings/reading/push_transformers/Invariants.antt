use Rattle.std.proofs.Common.{◌≡◌, ◌++◌, drop}
use Rattle.std.specs.List.{flat_map}
use Rattle.gic_review.specs.Readings.{transformer_told}
use Rattle.gic_review.proofs.findings.reading.push_transformers.Given as goal

-- what is told so far and what is left are all
abbrev pub invariant-loop-transformer : goal.invariant-loop-transformer
invariant-loop-transformer l = l.findings.items ++ flat_map transformer_told (drop l.transformer-index l.transformers) ≡ l.fn.findings.items ++ flat_map transformer_told l.transformers
