use Rattle.std.proofs.Common.{◌≡◌, map}
use Rattle.std.specs.List.{range_with_len}
use Rattle.gic_report.specs.Counts.{counts_of}
use Rattle.gic_worst.specs.RightRows.{worst_verdict_at}
use Rattle.gic_worst.specs.Rows.{screen_row_of}
use Rattle.gic_outage.specs.Outages.{worst_at}
use Rattle.gic_outage.specs.Taking.{worsts_in}
use Rattle.gic_outage.proofs.counting.count_verdicts.Given as goal

-- the verdicts so far are counted
abbrev pub invariant-loop-place : goal.invariant-loop-place
invariant-loop-place l = l.counts ≡ counts_of (map (λ t. worst_verdict_at l.case l.threshold t (worst_at (worsts_in (map screen_row_of l.rows)) t)) (range_with_len 0 l.place))
