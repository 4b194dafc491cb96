use Rattle.std.proofs.Common.{◌≡◌}
use Rattle.gic_report.specs.Counts.{counts_of}
use Rattle.gic_make.specs.Counting.{first_verdicts}
use Rattle.gic_make.proofs.counting.count_verdicts.Given as goal

-- the verdicts so far are counted
abbrev pub invariant-loop-place : goal.invariant-loop-place
invariant-loop-place l = l.counts ≡ counts_of (first_verdicts l.case l.threshold l.view l.place)
