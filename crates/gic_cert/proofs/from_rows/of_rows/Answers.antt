use Rattle.std.proofs.Common.{◌≡◌, map, All, ap, sym, subst, ◌∙◌}
use Rattle.gic_cert.specs.Rows.{row_written, IsNodeRow}
use Rattle.gic_cert.proofs.RowColumns.{rows_same}
use Rattle.gic_cert.proofs.from_rows.of_rows.Goals as goal

pub returns : goal.returns
returns c =
    let rows = c.as_slice-rows.result.now in
    let same : rows ≡ c.args.read.now.rows.items = c.as_slice-rows.ensures.value in
    let range : All IsNodeRow rows = subst (λ list. All IsNodeRow list) (sym same) c.requires.range in
    let nodes = rows_same rows c.in_ok-entries.entries c.in_ok-guesses.guesses.items c.in_ok-radii.radii.items c.args.read.now.field.north c.args.read.now.field.east range
    c.in_ok-entries.ensures.count c.in_ok-entries.ensures.each c.in_ok-guesses.ensures.count c.in_ok-guesses.ensures.each c.in_ok-radii.ensures.count c.in_ok-radii.ensures.each
    c.requires.north c.requires.east ∙ ap (λ list. map row_written list) same in
    c.from_columns.ensures ∙ ap (λ list. record { north = c.args.read.now.field.north; east = c.args.read.now.field.east; nodes = list }) nodes
