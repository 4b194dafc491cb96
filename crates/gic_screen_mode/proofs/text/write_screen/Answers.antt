use Rattle.std.proofs.Common.{◌≡◌, ◌++◌, map, List}
use Rattle.std.specs.Prelude.{codes}
use Rattle.gic_case.specs.declared.item.Transformer.{Transformer}
use Rattle.gic_text.specs.Lines.{line_text, lines_text}
use Rattle.gic_report.specs.SharedLines.{Words, word_line}
use Rattle.gic_report.proofs.Chained.{writes_as, writes_then, writes_stop}
use Rattle.gic_report.proofs.Framed.{framed}
use Rattle.gic_worst.specs.declared.rows.ScreenRow.{ScreenRow}
use Rattle.gic_worst.specs.declared.setting.Setting.{Setting}
use Rattle.gic_worst.specs.Rows.{screen_row_of}
use Rattle.gic_worst.specs.Setting.{event_setting_line}
use Rattle.gic_worst.specs.ScreenLines.{screened_transformer_lines}
use Rattle.gic_screen_mode.specs.ScreenText.{screen_report}
use Rattle.gic_screen_mode.proofs.text.write_screen.Goals as goal

asked : Setting → Words
asked s = event_setting_line s.width s.threshold s.field

items : List Transformer → Setting → List ScreenRow → List Words
items ts s rows = screened_transformer_lines s.threshold ts (map screen_row_of rows)

-- the report in the pieces in which it is written
pieces : (ts : List Transformer) (s : Setting) (rows : List ScreenRow)
    → line_text (word_line (codes "screen")) ++ (line_text (asked s) ++ (lines_text (items ts s rows) ++ line_text (word_line (codes "end"))))
    ≡ lines_text (screen_report ts s.width s.threshold s.field (map screen_row_of rows))
unfolding asked items
pieces ts s rows = framed (word_line (codes "screen")) (asked s) (items ts s rows) (word_line (codes "end"))

pub returns-in_err-write_word : goal.returns-in_err-write_word
unfolding asked items
returns-in_err-write_word g c =
    writes_as (pieces c.args.transformers.now c.args.setting.now c.args.rows.now)
    (writes_stop _ c.in_err-write_word.ensures c.from_residual.ensures.1)

pub returns-in_err-write_setting : goal.returns-in_err-write_setting
unfolding asked items
returns-in_err-write_setting g c =
    writes_as (pieces c.args.transformers.now c.args.setting.now c.args.rows.now)
    (writes_then c.in_ok-write_word.ensures (writes_stop _ c.in_err-write_setting.ensures c.from_residual-in_err-write_setting.ensures.1))

pub returns-in_err-write_transformers : goal.returns-in_err-write_transformers
unfolding asked items
returns-in_err-write_transformers g c =
    writes_as (pieces c.args.transformers.now c.args.setting.now c.args.rows.now)
    (writes_then c.in_ok-write_word.ensures (writes_then c.in_ok-write_setting.ensures (writes_stop _ c.in_err-write_transformers.ensures c.from_residual-in_err-write_transformers.ensures.1)))

pub returns : goal.returns
unfolding asked items
returns g c =
    writes_as (pieces c.args.transformers.now c.args.setting.now c.args.rows.now)
    (writes_then c.in_ok-write_word.ensures (writes_then c.in_ok-write_setting.ensures (writes_then c.in_ok-write_transformers.ensures c.write_word-2.ensures)))
