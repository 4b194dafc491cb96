use Rattle.std.proofs.Common.{◌≡◌, length}
use Rattle.gic_report.specs.ItemText.{all_neutral_rows}
use Rattle.gic_report.proofs.rows.next_neutral.Given as goal

-- no row was passed
abbrev pub invariant-loop-transformer : goal.invariant-loop-transformer
invariant-loop-transformer l = all_neutral_rows l.transformers ≡ all_neutral_rows l.left

abbrev pub decreases-loop-transformer : goal.decreases-loop-transformer
decreases-loop-transformer l = length l.left
