use Rattle.std.proofs.Common.{◌≡◌, map, drop}
use Rattle.gic_cert.specs.Reading.{none_empty}
use Rattle.gic_cert.proofs.lines.none_empty.Given as goal

abbrev pub invariant-loop-place : goal.invariant-loop-place
invariant-loop-place l = none_empty (map (λ w. w.now) (drop l.place l.words)) ≡ none_empty (map (λ w. w.now) l.words)
