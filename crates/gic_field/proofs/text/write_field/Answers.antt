use Rattle.std.proofs.Common.{◌≡◌, ◌++◌, List}
use Rattle.std.specs.Prelude.{codes}
use Rattle.gic_case.specs.Lists.{Lists}
use Rattle.gic_view.specs.View.{View}
use Rattle.gic_text.specs.Lines.{line_text, lines_text}
use Rattle.gic_report.specs.SharedLines.{Words, word_line}
use Rattle.gic_report.specs.ItemText.{signed_lines}
use Rattle.gic_field.specs.FieldText.{field_setting_line, field_report}
use Rattle.gic_report.specs.VerdictText.{transformer_lines}
use Rattle.gic_field.specs.declared.text.Setting.{Setting}
use Rattle.gic_report.proofs.Chained.{writes_as, writes_then, writes_stop}
use Rattle.gic_report.proofs.Framed.{framed}
use Rattle.gic_field.proofs.text.write_field.Goals as goal

asked : Setting → Words
asked s = field_setting_line s.north s.east s.width s.threshold

items : Lists → View → Setting → List Words
items case view s = signed_lines case view ++ transformer_lines s.threshold case.transformers view.effective

-- the report in the pieces in which it is written
pieces : (case : Lists) (s : Setting) (view : View)
    → line_text (word_line (codes "field")) ++ (line_text (asked s) ++ (lines_text (items case view s) ++ line_text (word_line (codes "end"))))
    ≡ lines_text (field_report case s.north s.east s.width s.threshold view)
unfolding asked items
pieces case s view = framed (word_line (codes "field")) (asked s) (items case view s) (word_line (codes "end"))

pub returns-in_err-write_word : goal.returns-in_err-write_word
unfolding asked items
returns-in_err-write_word g c =
    writes_as (pieces c.args.case.now c.args.setting.now c.args.view.now)
    (writes_stop _ c.in_err-write_word.ensures c.from_residual.ensures.1)

pub returns-in_err-write_setting : goal.returns-in_err-write_setting
unfolding asked items
returns-in_err-write_setting g c =
    writes_as (pieces c.args.case.now c.args.setting.now c.args.view.now)
    (writes_then c.in_ok-write_word.ensures (writes_stop _ c.in_err-write_setting.ensures c.from_residual-in_err-write_setting.ensures.1))

pub returns-in_err-write_items : goal.returns-in_err-write_items
unfolding asked items
returns-in_err-write_items g c =
    writes_as (pieces c.args.case.now c.args.setting.now c.args.view.now)
    (writes_then c.in_ok-write_word.ensures (writes_then c.in_ok-write_setting.ensures (writes_stop _ c.in_err-write_items.ensures c.from_residual-in_err-write_items.ensures.1)))

pub returns : goal.returns
unfolding asked items
returns g c =
    writes_as (pieces c.args.case.now c.args.setting.now c.args.view.now)
    (writes_then c.in_ok-write_word.ensures (writes_then c.in_ok-write_setting.ensures (writes_then c.in_ok-write_items.ensures c.write_word-2.ensures)))
