use Rattle.std.proofs.Common.{◌++◌, ℕ, List, ap}
use Rattle.gic_case.specs.Lists.{Lists, node_names}
use Rattle.gic_view.specs.View.{View}
use Rattle.gic_text.specs.Lines.{lines_text}
use Rattle.gic_report.specs.SharedLines.{Words}
use Rattle.gic_report.specs.ItemText.{node_lines, row_lines, item_rows_of}
use Rattle.gic_report.specs.VerdictText.{absolute_lines}
use Rattle.gic_report.proofs.Chained.{writes_as, lines_then, lines_stop}
use Rattle.gic_study_text.proofs.text.write_peaks.Goals as goal

nodes : Lists → View → List Words
nodes case peaks = node_lines (node_names case) peaks.nodes

rows : Lists → View → List Words
rows case peaks = row_lines (item_rows_of case) peaks.elements

judged : ℕ → Lists → View → List Words
judged threshold case peaks = absolute_lines threshold case.transformers peaks.effective

pub returns-in_err-write_nodes : goal.returns-in_err-write_nodes
unfolding nodes rows judged
returns-in_err-write_nodes g c =
    let case = c.args.case.now in
    let peaks = c.args.peaks.now in
    lines_stop (nodes case peaks) (rows case peaks ++ judged c.args.threshold case peaks) c.in_err-write_nodes.ensures c.from_residual.ensures.1

pub returns-in_err-write_rows : goal.returns-in_err-write_rows
unfolding nodes rows judged
returns-in_err-write_rows g c =
    let case = c.args.case.now in
    let peaks = c.args.peaks.now in
    lines_then (nodes case peaks) (rows case peaks ++ judged c.args.threshold case peaks) c.in_ok-write_nodes.ensures
    (lines_stop (rows case peaks) (judged c.args.threshold case peaks) c.in_err-write_rows.ensures c.from_residual-in_err-write_rows.ensures.1)

pub returns : goal.returns
unfolding nodes rows judged
returns g c =
    let case = c.args.case.now in
    let peaks = c.args.peaks.now in
    lines_then (nodes case peaks) (rows case peaks ++ judged c.args.threshold case peaks) c.in_ok-write_nodes.ensures
    (lines_then (rows case peaks) (judged c.args.threshold case peaks) c.in_ok-write_rows.ensures
    (writes_as (ap (λ ts. lines_text (absolute_lines c.args.threshold ts peaks.effective)) c.transformers.ensures.value) c.write_absolutes.ensures))
