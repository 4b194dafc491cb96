use Rattle.std.proofs.Common.{rules, ◌≡◌, ℕ, suc, ◌+◌, ◌<◌, ◌++◌, List, map, length, drop, get_or, sym, ap, ◌∙◌, add-one, drop-cons}
use Rattle.gic_text.specs.Lines.{line_text, lines_text}
use Rattle.gic_report.proofs.Written.{goes_on, stops}
use Rattle.gic_series.specs.declared.rows.SeriesRow.{SeriesRow}
use Rattle.gic_series.specs.Rows.{series_row_of}
use Rattle.gic_series.specs.SeriesText.{series_step_line}
use Rattle.gic_series.proofs.text.write_steps.Goals as goal

-- the text of the steps that are left begins with that of the next
next_step : (rows : List SeriesRow) (i : ℕ) (row : SeriesRow) → i < length rows → row ≡ get_or rows i row
    → lines_text (map series_step_line (map series_row_of (drop i rows))) ≡ line_text (series_step_line (series_row_of row)) ++ lines_text (map series_step_line (map series_row_of (drop (i + 1) rows)))
next_step rows i row within is =
    ap (λ l. lines_text (map series_step_line (map series_row_of l))) (drop-cons rows i row within)
    ∙ ap (λ r. line_text (series_step_line (series_row_of r)) ++ lines_text (map series_step_line (map series_row_of (drop (suc i) rows)))) (sym is)
    ∙ ap (λ k. line_text (series_step_line (series_row_of row)) ++ lines_text (map series_step_line (map series_row_of (drop k rows)))) (sym (add-one i))

pub loop-row-preserved : goal.loop-row-preserved
loop-row-preserved g c =
    let next = next_step c.args.rows.now c.loop-row.row-index c.row-item.result (search rules) c.row-item.is in
    record { written = goes_on c.loop-row.invariant.written next c.in_ok-write_step.ensures }

pub returns-in_err-write_step : goal.returns-in_err-write_step
returns-in_err-write_step g c =
    let next = next_step c.args.rows.now c.loop-row.row-index c.row-item.result (search rules) c.row-item.is in
    stops _ c.loop-row.invariant.written next c.in_err-write_step.ensures c.from_residual.ensures.1
