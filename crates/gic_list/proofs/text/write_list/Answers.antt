use Rattle.std.proofs.Common.{◌≡◌, ℕ, ◌++◌, List, length, map}
use Rattle.std.specs.Prelude.{codes}
use Rattle.gic_case.specs.Lists.{Lists}
use Rattle.gic_model.specs.declared.parts.Element.{Element}
use Rattle.gic_text.specs.Lines.{line_text, lines_text}
use Rattle.gic_report.specs.SharedLines.{word_line, sizes_line}
use Rattle.gic_list.specs.ListText.{element_line, list_report}
use Rattle.gic_report.proofs.Chained.{writes_as, writes_then, writes_stop}
use Rattle.gic_report.proofs.Framed.{framed}
use Rattle.gic_list.proofs.text.write_list.Goals as goal

-- the report in the pieces in which it is written
pieces : (case : Lists) (nodes : ℕ) (elements : List Element)
    → line_text (word_line (codes "list")) ++ (line_text (sizes_line nodes (length elements)) ++ (lines_text (map (element_line case) elements) ++ line_text (word_line (codes "end"))))
    ≡ lines_text (list_report case nodes elements)
pieces case nodes elements = framed (word_line (codes "list")) (sizes_line nodes (length elements)) (map (element_line case) elements) (word_line (codes "end"))

pub returns-in_err-write_word : goal.returns-in_err-write_word
returns-in_err-write_word g c =
    writes_as (pieces c.args.case.now c.args.nodes c.args.elements.now)
    (writes_stop _ c.in_err-write_word.ensures c.from_residual.ensures.1)

pub returns-in_err-write_sizes : goal.returns-in_err-write_sizes
returns-in_err-write_sizes g c =
    writes_as (pieces c.args.case.now c.args.nodes c.args.elements.now)
    (writes_then c.in_ok-write_word.ensures (writes_stop _ c.in_err-write_sizes.ensures c.from_residual-in_err-write_sizes.ensures.1))

pub returns-in_err-write_elements : goal.returns-in_err-write_elements
returns-in_err-write_elements g c =
    writes_as (pieces c.args.case.now c.args.nodes c.args.elements.now)
    (writes_then c.in_ok-write_word.ensures (writes_then c.in_ok-write_sizes.ensures (writes_stop _ c.in_err-write_elements.ensures c.from_residual-in_err-write_elements.ensures.1)))

pub returns : goal.returns
returns g c =
    writes_as (pieces c.args.case.now c.args.nodes c.args.elements.now)
    (writes_then c.in_ok-write_word.ensures (writes_then c.in_ok-write_sizes.ensures (writes_then c.in_ok-write_elements.ensures c.write_word-2.ensures)))
