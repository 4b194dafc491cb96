use Rattle.std.proofs.Common.{◌++◌, List, ap}
use Rattle.gic_case.specs.Lists.{Lists, node_names}
use Rattle.gic_view.specs.View.{View}
use Rattle.gic_text.specs.Lines.{lines_text}
use Rattle.gic_report.specs.SharedLines.{Words}
use Rattle.gic_report.specs.ItemText.{effective_lines, node_lines, row_lines, item_rows_of}
use Rattle.gic_report.proofs.Chained.{writes_as, lines_then, lines_stop}
use Rattle.gic_report.proofs.items.write_signed.Goals as goal

nodes : Lists → View → List Words
nodes case view = node_lines (node_names case) view.nodes

rows : Lists → View → List Words
rows case view = row_lines (item_rows_of case) view.elements

effectives : Lists → View → List Words
effectives case view = effective_lines case.transformers view.effective

pub returns-in_err-write_nodes : goal.returns-in_err-write_nodes
unfolding nodes rows effectives
returns-in_err-write_nodes g c =
    let case = c.args.case.now in
    let view = c.args.view.now in
    lines_stop (nodes case view) (rows case view ++ effectives case view) c.in_err-write_nodes.ensures c.from_residual.ensures.1

pub returns-in_err-write_rows : goal.returns-in_err-write_rows
unfolding nodes rows effectives
returns-in_err-write_rows g c =
    let case = c.args.case.now in
    let view = c.args.view.now in
    lines_then (nodes case view) (rows case view ++ effectives case view) c.in_ok-write_nodes.ensures
    (lines_stop (rows case view) (effectives case view) c.in_err-write_rows.ensures c.from_residual-in_err-write_rows.ensures.1)

pub returns : goal.returns
unfolding nodes rows effectives
returns g c =
    let case = c.args.case.now in
    let view = c.args.view.now in
    lines_then (nodes case view) (rows case view ++ effectives case view) c.in_ok-write_nodes.ensures
    (lines_then (rows case view) (effectives case view) c.in_ok-write_rows.ensures
    (writes_as (ap (λ ts. lines_text (effective_lines ts view.effective)) c.transformers.ensures.value) c.write_effectives.ensures))
