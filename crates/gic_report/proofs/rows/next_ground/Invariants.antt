use Rattle.std.proofs.Common.{◌≡◌, length}
use Rattle.gic_report.specs.ItemText.{all_ground_rows}
use Rattle.gic_report.proofs.rows.next_ground.Given as goal

-- no row was passed
abbrev pub invariant-loop-substation : goal.invariant-loop-substation
invariant-loop-substation l = all_ground_rows l.substations ≡ all_ground_rows l.left

abbrev pub decreases-loop-substation : goal.decreases-loop-substation
decreases-loop-substation l = length l.left
