use Rattle.std.proofs.Common.{◌≡◌, ℤ, FitsSigned, w32, List, ◌++◌, Option, map}
use Rattle.std.specs.Prelude.{codes}
use Rattle.gic_text.specs.Lines.{line_text, lines_text}
use Rattle.gic_case.specs.Lists.{Lists, node_names}
use Rattle.gic_fixed.specs.Ends.{Ends}
use Rattle.gic_view.specs.Kept.{optional_ends}
use Rattle.gic_report.specs.SharedLines.{word_line}
use Rattle.gic_recheck.specs.RecheckText.{potential_lines, recheck_report}
use Rattle.gic_report.proofs.Chained.{writes_as, writes_then, writes_stop}
use Rattle.gic_report.proofs.PassedField.{passed_line, framed_field}
use Rattle.gic_recheck.proofs.text.write_recheck.Goals as goal

-- the report in the pieces in which it is written, with the line that was passed
pieces : (case : Lists) (north east : ℤ) (intervals : List (Option Ends)) → FitsSigned w32 north → FitsSigned w32 east
    → line_text (word_line (codes "recheck")) ++ (line_text (passed_line north east) ++ (lines_text (potential_lines (node_names case) intervals) ++ line_text (word_line (codes "end"))))
    ≡ lines_text (recheck_report case north east intervals)
pieces case north east intervals n e =
    framed_field (word_line (codes "recheck")) north east (potential_lines (node_names case) intervals) (word_line (codes "end")) n e

pub returns-in_err-write_word : goal.returns-in_err-write_word
unfolding passed_line
returns-in_err-write_word g c =
    writes_as (pieces c.args.case.now c.args.north c.args.east (map optional_ends c.args.intervals.now) c.ranges.north c.ranges.east)
    (writes_stop _ c.in_err-write_word.ensures c.from_residual.ensures.1)

pub returns-in_err-write_field_line : goal.returns-in_err-write_field_line
unfolding passed_line
returns-in_err-write_field_line g c =
    writes_as (pieces c.args.case.now c.args.north c.args.east (map optional_ends c.args.intervals.now) c.ranges.north c.ranges.east)
    (writes_then c.in_ok-write_word.ensures (writes_stop _ c.in_err-write_field_line.ensures c.from_residual-in_err-write_field_line.ensures.1))

pub returns-in_err-write_potentials : goal.returns-in_err-write_potentials
unfolding passed_line
returns-in_err-write_potentials g c =
    writes_as (pieces c.args.case.now c.args.north c.args.east (map optional_ends c.args.intervals.now) c.ranges.north c.ranges.east)
    (writes_then c.in_ok-write_word.ensures (writes_then c.in_ok-write_field_line.ensures (writes_stop _ c.in_err-write_potentials.ensures c.from_residual-in_err-write_potentials.ensures.1)))

pub returns : goal.returns
unfolding passed_line
returns g c =
    writes_as (pieces c.args.case.now c.args.north c.args.east (map optional_ends c.args.intervals.now) c.ranges.north c.ranges.east)
    (writes_then c.in_ok-write_word.ensures (writes_then c.in_ok-write_field_line.ensures (writes_then c.in_ok-write_potentials.ensures c.write_word-2.ensures)))
