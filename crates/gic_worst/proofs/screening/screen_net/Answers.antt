use Rattle.std.proofs.Common.{arith, ◌∙◌}
use Rattle.gic_model.specs.Voltages.{number_at}
use Rattle.gic_net.specs.Net.{standing}
use Rattle.gic_worst.proofs.RightRows.{rows_screened}
use Rattle.gic_worst.proofs.screening.screen_net.Goals as goal

pub returns-clause-right : goal.returns-clause-right
returns-clause-right c =
    rows_screened c.args.case.now (standing c.args.net.now) (number_at c.args.volts.now.north) (number_at c.args.volts.now.east) c.args.width c.solved_width-half.result
    c.solve_view.new.view c.solve_view-2.new.view c.fill_rows.new.rows c.solve_view.ensures.solved c.solve_view-2.ensures.solved
    (omega (arith, c.requires.width.least, c.solved_width-half.ensures)) (omega (arith, c.solved_width-half.ensures))
    (c.fill_rows.ensures.count ∙ c.requires.workspace.row_count) c.fill_rows.ensures.filled
