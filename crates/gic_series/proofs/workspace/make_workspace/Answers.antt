use Rattle.std.proofs.Common.{◌∙◌}
use Rattle.gic_stand.proofs.Repeated.{repeated_length}
use Rattle.gic_series.specs.Rows.{no_series_row}
use Rattle.gic_series.proofs.workspace.make_workspace.Goals as goal

pub returns : goal.returns
returns c = record {
  course = c.in_ok-course.ensures;
  one_each = repeated_length c.steps.result no_series_row c.in_ok-rows.rows c.in_ok-rows.ensures ∙ c.steps.ensures.value;
}
