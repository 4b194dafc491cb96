use Rattle.std.proofs.Common.{◌≡◌}
use Rattle.gic_review.specs.Places.{start_of}
use Rattle.gic_review.proofs.findings.places.start_places.Given as goal

-- the places so far
abbrev pub invariant-loop-group : goal.invariant-loop-group
invariant-loop-group l = l.places.items ≡ start_of l.group
