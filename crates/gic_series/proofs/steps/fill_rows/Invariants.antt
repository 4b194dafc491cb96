use Rattle.std.proofs.Common.{◌≡◌, ℕ, ◌+◌, ◌<◌, length}
use Rattle.gic_storm.specs.Steps.{steps_in}
use Rattle.gic_course.specs.CourseOf.{CanShow}
use Rattle.gic_series.specs.Rows.{series_row_at}
use Rattle.gic_series.specs.RightSeries.{IsRightSeriesRow}
use Rattle.gic_series.proofs.steps.fill_rows.Given as goal

-- the rows so far are right
abbrev pub invariant-loop-place : goal.invariant-loop-place
invariant-loop-place l = record {
  shows : CanShow l.inputs l.course;
  one_each : length l.rows ≡ length (steps_in l.inputs.storm.rows);
  filled : (k : ℕ) → k < l.place → IsRightSeriesRow l.inputs l.transformer (k + 1) (series_row_at l.rows k);
}
