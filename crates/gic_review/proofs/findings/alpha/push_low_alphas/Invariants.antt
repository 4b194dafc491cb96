use Rattle.std.proofs.Common.{◌≡◌, ◌++◌, drop}
use Rattle.std.specs.List.{flat_map}
use Rattle.gic_review.specs.LowAlpha.{low_alpha_told}
use Rattle.gic_review.proofs.findings.alpha.push_low_alphas.Given as goal

-- what is told so far and what is left are all
abbrev pub invariant-loop-zone : goal.invariant-loop-zone
invariant-loop-zone l = l.findings.items ++ flat_map low_alpha_told (drop l.zone-index l.zones) ≡ l.fn.findings.items ++ flat_map low_alpha_told l.zones
