use Rattle.std.proofs.Common.{◌≡◌, ℤ, FitsSigned, w32, List, ◌++◌}
use Rattle.std.specs.Prelude.{codes}
use Rattle.gic_text.specs.Lines.{line_text, lines_text}
use Rattle.gic_case.specs.declared.item.Line.{Line}
use Rattle.gic_report.specs.SharedLines.{word_line}
use Rattle.gic_volts.specs.VoltsText.{volts_lines, volts_report}
use Rattle.gic_report.proofs.Chained.{writes_as, writes_then, writes_stop}
use Rattle.gic_report.proofs.PassedField.{passed_line, framed_field}
use Rattle.gic_volts.proofs.text.write_volts.Goals as goal

-- the report in the pieces in which it is written, with the line that was passed
pieces : (lines : List Line) (north east : ℤ) (numbers : List ℤ) → FitsSigned w32 north → FitsSigned w32 east
    → line_text (word_line (codes "volts")) ++ (line_text (passed_line north east) ++ (lines_text (volts_lines lines numbers) ++ line_text (word_line (codes "end"))))
    ≡ lines_text (volts_report lines north east numbers)
pieces lines north east numbers n e = framed_field (word_line (codes "volts")) north east (volts_lines lines numbers) (word_line (codes "end")) n e

pub returns-in_err-write_word : goal.returns-in_err-write_word
unfolding passed_line
returns-in_err-write_word g c =
    writes_as (pieces c.args.lines.now c.args.north c.args.east c.args.nanovolts.now c.ranges.north c.ranges.east)
    (writes_stop _ c.in_err-write_word.ensures c.from_residual.ensures.1)

pub returns-in_err-write_field_line : goal.returns-in_err-write_field_line
unfolding passed_line
returns-in_err-write_field_line g c =
    writes_as (pieces c.args.lines.now c.args.north c.args.east c.args.nanovolts.now c.ranges.north c.ranges.east)
    (writes_then c.in_ok-write_word.ensures (writes_stop _ c.in_err-write_field_line.ensures c.from_residual-in_err-write_field_line.ensures.1))

pub returns-in_err-write_volts_lines : goal.returns-in_err-write_volts_lines
unfolding passed_line
returns-in_err-write_volts_lines g c =
    writes_as (pieces c.args.lines.now c.args.north c.args.east c.args.nanovolts.now c.ranges.north c.ranges.east)
    (writes_then c.in_ok-write_word.ensures (writes_then c.in_ok-write_field_line.ensures (writes_stop _ c.in_err-write_volts_lines.ensures c.from_residual-in_err-write_volts_lines.ensures.1)))

pub returns : goal.returns
unfolding passed_line
returns g c =
    writes_as (pieces c.args.lines.now c.args.north c.args.east c.args.nanovolts.now c.ranges.north c.ranges.east)
    (writes_then c.in_ok-write_word.ensures (writes_then c.in_ok-write_field_line.ensures (writes_then c.in_ok-write_volts_lines.ensures c.write_word-2.ensures)))
