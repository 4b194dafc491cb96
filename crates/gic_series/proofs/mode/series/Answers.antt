use Rattle.std.proofs.Common.{refl}
use Rattle.gic_stand.specs.Needs.{Solved}
use Rattle.gic_stand.proofs.Served.{served}
use Rattle.gic_course.specs.Steps.{storm_steps}
use Rattle.gic_series.specs.RightSeries.{IsRightSeries}
use Rattle.gic_series.proofs.mode.series.Goals as goal

pub returns : goal.returns
returns g c =
    let inputs = c.args.inputs.now in
    served Solved inputs.case (storm_steps inputs) (IsRightSeries inputs c.args.transformer) _ _ _
    c.write_rows-writing.result c.ended.result c.in_ok-expect_solvable.ensures.met.solvable
    (record { rows = c.fill_rows.new.rows; right = c.fill_rows.ensures; text_is = refl })
    c.write_rows-writing.ensures.all c.write_rows-writing.ensures.part c.write_rows-writing.ensures.cause c.ended.ensures
