use Rattle.std.proofs.Common.{rules, ◌≡◌}
use Rattle.gic_text.specs.Lines.{line_text}
use Rattle.gic_cert.specs.Text.{nodes_line}
use Rattle.gic_report.proofs.Chained.{writes_as}
use Rattle.gic_cert.proofs.writing.write_nodes_line.Goals as goal

pub returns : goal.returns
unfolding nodes_line
returns g c =
    let bytes : c.finish.result.now ≡ line_text (nodes_line c.args.count c.args.field.now.north c.args.field.now.east) = search rules in
    writes_as bytes c.write_all.ensures
