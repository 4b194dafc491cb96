use Rattle.std.proofs.Common.{◌≡◌, List, ◌++◌}
use Rattle.std.specs.Prelude.{codes, length}
use Rattle.gic_text.specs.Lines.{line_text, lines_text}
use Rattle.gic_case.specs.Lists.{Lists, node_names}
use Rattle.gic_report.specs.SharedLines.{Words, word_line}
use Rattle.gic_report.proofs.Chained.{writes_as, writes_then, writes_stop}
use Rattle.gic_report.proofs.Framed.{framed}
use Rattle.gic_cert.specs.Written.{Certificate}
use Rattle.gic_cert.specs.Text.{nodes_line, written_lines, cert_text}
use Rattle.gic_cert.proofs.writing.write_cert.Goals as goal

second : Certificate → Words
second c = nodes_line (length c.nodes) c.north c.east

body : Lists → Certificate → List Words
body case c = written_lines (node_names case) c.nodes

-- the text in the pieces in which it is written
pieces : (case : Lists) (c : Certificate)
    → line_text (word_line (codes "certificate")) ++ (line_text (second c) ++ (lines_text (body case c) ++ line_text (word_line (codes "end")))) ≡ cert_text (node_names case) c
unfolding second body
pieces case c = framed (word_line (codes "certificate")) (second c) (body case c) (word_line (codes "end"))

pub returns-in_err-write_word : goal.returns-in_err-write_word
unfolding second body
returns-in_err-write_word g c =
    writes_as (pieces c.args.case.now c.args.cert.now)
    (writes_stop _ c.in_err-write_word.ensures c.from_residual.ensures.1)

pub returns-in_err-write_field : goal.returns-in_err-write_field
unfolding second body
returns-in_err-write_field g c =
    writes_as (pieces c.args.case.now c.args.cert.now)
    (writes_then c.in_ok-write_word.ensures (writes_stop _ c.in_err-write_field.ensures c.from_residual-in_err-write_field.ensures.1))

pub returns-in_err-write_nodes : goal.returns-in_err-write_nodes
unfolding second body
returns-in_err-write_nodes g c =
    writes_as (pieces c.args.case.now c.args.cert.now)
    (writes_then c.in_ok-write_word.ensures (writes_then c.in_ok-write_field.ensures (writes_stop _ c.in_err-write_nodes.ensures c.from_residual-in_err-write_nodes.ensures.1)))

pub returns : goal.returns
unfolding second body
returns g c =
    writes_as (pieces c.args.case.now c.args.cert.now)
    (writes_then c.in_ok-write_word.ensures (writes_then c.in_ok-write_field.ensures (writes_then c.in_ok-write_nodes.ensures c.write_word-2.ensures)))
