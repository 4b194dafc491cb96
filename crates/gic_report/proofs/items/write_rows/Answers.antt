use Rattle.std.proofs.Common.{rules, ◌≡◌, ◌∷◌}
use Rattle.gic_report.specs.RowsLeft.{rows_left}
use Rattle.gic_report.proofs.Written.{goes_on, stops}
use Rattle.gic_report.proofs.RowsWritten.{next_row}
use Rattle.gic_report.proofs.items.write_rows.Goals as goal

pub loop-row-preserved : goal.loop-row-preserved
loop-row-preserved g c =
    let more : rows_left c.loop-row.row-iterator ≡ c.in-Some.row ∷ rows_left c.next.new.self = search rules in
    let next = next_row _ _ _ c.write_row.new.cells c.in-Some.row more c.in_ok-write_row.ensures.left in
    record { written = goes_on c.loop-row.invariant.written next c.in_ok-write_row.ensures.written }

pub returns-in_err-write_row : goal.returns-in_err-write_row
returns-in_err-write_row g c =
    let more : rows_left c.loop-row.row-iterator ≡ c.in-Some.row ∷ rows_left c.next.new.self = search rules in
    let next = next_row _ _ _ c.write_row.new.cells c.in-Some.row more c.write_row.ensures.left in
    stops _ c.loop-row.invariant.written next c.in_err-write_row.ensures.written c.from_residual.ensures.1
