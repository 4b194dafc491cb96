use Rattle.std.proofs.Common.{◌≡◌, ◌++◌, Option, List, map}
use Rattle.std.specs.Prelude.{codes}
use Rattle.gic_case.specs.Lists.{Lists}
use Rattle.gic_fixed.specs.declared.interval.Interval.{Interval}
use Rattle.gic_view.specs.Kept.{optional_ends}
use Rattle.gic_text.specs.Lines.{line_text, lines_text}
use Rattle.gic_report.specs.SharedLines.{Words, word_line}
use Rattle.gic_report.proofs.Chained.{writes_as, writes_then, writes_stop}
use Rattle.gic_worst.specs.declared.setting.Setting.{Setting}
use Rattle.gic_worst.specs.Setting.{event_setting_line}
use Rattle.gic_outage.specs.declared.outcome.OutageOutcome.{OutageOutcome}
use Rattle.gic_outage.specs.OutageText.{outcome_lines, outage_report, plan_names, greatest_worst_lines}
use Rattle.gic_outage.proofs.OutageWritten.{framed_blocks}
use Rattle.gic_outage.proofs.text.write_outage.Goals as goal

asked : Setting → Words
asked s = event_setting_line s.width s.threshold s.field

outages : Lists → List OutageOutcome → List Words
outages case outcomes = outcome_lines (plan_names case) outcomes

transformers : Lists → Setting → List (Option Interval) → List Words
transformers case s greatest = greatest_worst_lines s.threshold case.transformers (map optional_ends greatest)

-- the report in the pieces in which it is written
pieces : (case : Lists) (s : Setting) (outcomes : List OutageOutcome) (greatest : List (Option Interval))
    → line_text (word_line (codes "outage")) ++ (line_text (asked s) ++ (lines_text (outages case outcomes) ++ (lines_text (transformers case s greatest) ++ line_text (word_line (codes "end")))))
    ≡ lines_text (outage_report case s.width s.threshold s.field outcomes (map optional_ends greatest))
unfolding asked outages transformers
pieces case s outcomes greatest = framed_blocks (word_line (codes "outage")) (asked s) (outages case outcomes) (transformers case s greatest) (word_line (codes "end"))

pub returns-in_err-write_word : goal.returns-in_err-write_word
unfolding asked outages transformers
returns-in_err-write_word g c =
    writes_as (pieces c.args.case.now c.args.setting.now c.args.outcomes.now c.args.greatest.now)
    (writes_stop _ c.in_err-write_word.ensures c.from_residual.ensures.1)

pub returns-in_err-write_setting : goal.returns-in_err-write_setting
unfolding asked outages transformers
returns-in_err-write_setting g c =
    writes_as (pieces c.args.case.now c.args.setting.now c.args.outcomes.now c.args.greatest.now)
    (writes_then c.in_ok-write_word.ensures (writes_stop _ c.in_err-write_setting.ensures c.from_residual-in_err-write_setting.ensures.1))

pub returns-in_err-write_outcomes : goal.returns-in_err-write_outcomes
unfolding asked outages transformers
returns-in_err-write_outcomes g c =
    writes_as (pieces c.args.case.now c.args.setting.now c.args.outcomes.now c.args.greatest.now)
    (writes_then c.in_ok-write_word.ensures (writes_then c.in_ok-write_setting.ensures (writes_stop _ c.in_err-write_outcomes.ensures c.from_residual-in_err-write_outcomes.ensures.1)))

pub returns-in_err-write_transformers : goal.returns-in_err-write_transformers
unfolding asked outages transformers
returns-in_err-write_transformers g c =
    writes_as (pieces c.args.case.now c.args.setting.now c.args.outcomes.now c.args.greatest.now)
    (writes_then c.in_ok-write_word.ensures (writes_then c.in_ok-write_setting.ensures (writes_then c.in_ok-write_outcomes.ensures (writes_stop _ c.in_err-write_transformers.ensures c.from_residual-in_err-write_transformers.ensures.1))))

pub returns : goal.returns
unfolding asked outages transformers
returns g c =
    writes_as (pieces c.args.case.now c.args.setting.now c.args.outcomes.now c.args.greatest.now)
    (writes_then c.in_ok-write_word.ensures (writes_then c.in_ok-write_setting.ensures (writes_then c.in_ok-write_outcomes.ensures (writes_then c.in_ok-write_transformers.ensures c.write_word-2.ensures))))
