use Rattle.std.proofs.Common.{◌≡◌, List, Bool, ◌++◌}
use Rattle.std.specs.Prelude.{codes}
use Rattle.gic_text.specs.Lines.{line_text, lines_text}
use Rattle.gic_case.specs.Lists.{Lists, node_names}
use Rattle.gic_report.specs.SharedLines.{word_line}
use Rattle.gic_check.specs.CheckText.{check_report, live_count, live_count_line, state_lines}
use Rattle.gic_report.proofs.Chained.{writes_as, writes_then, writes_stop}
use Rattle.gic_report.proofs.Framed.{headed}
use Rattle.gic_check.proofs.text.write_check.Goals as goal

-- the report in the pieces in which it is written
pieces : (case : Lists) (live : List Bool)
    → line_text (word_line (codes "check")) ++ (lines_text (state_lines (node_names case) live) ++ (line_text (live_count_line (live_count live)) ++ line_text (word_line (codes "end"))))
    ≡ lines_text (check_report case live)
pieces case live = headed (word_line (codes "check")) (state_lines (node_names case) live) (live_count_line (live_count live)) (word_line (codes "end"))

pub returns-in_err-write_word : goal.returns-in_err-write_word
returns-in_err-write_word g c =
    writes_as (pieces c.args.case.now c.args.live.now)
    (writes_stop _ c.in_err-write_word.ensures c.from_residual.ensures.1)

pub returns-in_err-write_states : goal.returns-in_err-write_states
returns-in_err-write_states g c =
    writes_as (pieces c.args.case.now c.args.live.now)
    (writes_then c.in_ok-write_word.ensures (writes_stop _ c.in_err-write_states.ensures c.from_residual-in_err-write_states.ensures.1))

pub returns-in_err-write_live_count : goal.returns-in_err-write_live_count
returns-in_err-write_live_count g c =
    writes_as (pieces c.args.case.now c.args.live.now)
    (writes_then c.in_ok-write_word.ensures (writes_then c.in_ok-write_states.ensures (writes_stop _ c.in_err-write_live_count.ensures c.from_residual-in_err-write_live_count.ensures.1)))

pub returns : goal.returns
returns g c =
    writes_as (pieces c.args.case.now c.args.live.now)
    (writes_then c.in_ok-write_word.ensures (writes_then c.in_ok-write_states.ensures (writes_then c.in_ok-write_live_count.ensures c.write_word-2.ensures)))
