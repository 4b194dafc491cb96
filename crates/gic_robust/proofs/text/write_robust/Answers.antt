use Rattle.std.proofs.Common.{◌≡◌, ◌++◌, ℕ, map, List}
use Rattle.std.specs.Prelude.{codes}
use Rattle.gic_case.specs.declared.item.Transformer.{Transformer}
use Rattle.gic_text.specs.Lines.{line_text, lines_text}
use Rattle.gic_report.specs.SharedLines.{Words, word_line}
use Rattle.gic_report.proofs.Chained.{writes_as, writes_then, writes_stop}
use Rattle.gic_report.proofs.Framed.{framed}
use Rattle.gic_worst.specs.declared.rows.ScreenRow.{ScreenRow}
use Rattle.gic_worst.specs.declared.setting.Setting.{Setting}
use Rattle.gic_worst.specs.Rows.{screen_row_of}
use Rattle.gic_worst.specs.ScreenLines.{screened_transformer_lines}
use Rattle.gic_robust.specs.RobustText.{robust_setting_line, robust_report}
use Rattle.gic_robust.proofs.text.write_robust.Goals as goal

asked : Setting → ℕ → Words
asked s tolerance = robust_setting_line s.width s.threshold s.field tolerance

items : List Transformer → Setting → List ScreenRow → List Words
items ts s rows = screened_transformer_lines s.threshold ts (map screen_row_of rows)

-- the report in the pieces in which it is written
pieces : (ts : List Transformer) (s : Setting) (tolerance : ℕ) (rows : List ScreenRow)
    → line_text (word_line (codes "robust")) ++ (line_text (asked s tolerance) ++ (lines_text (items ts s rows) ++ line_text (word_line (codes "end"))))
    ≡ lines_text (robust_report ts s.width s.threshold s.field tolerance (map screen_row_of rows))
unfolding asked items
pieces ts s tolerance rows = framed (word_line (codes "robust")) (asked s tolerance) (items ts s rows) (word_line (codes "end"))

pub returns-in_err-write_word : goal.returns-in_err-write_word
unfolding asked items
returns-in_err-write_word g c =
    writes_as (pieces c.args.transformers.now c.args.setting.now c.args.tolerance c.args.rows.now)
    (writes_stop _ c.in_err-write_word.ensures c.from_residual.ensures.1)

pub returns-in_err-write_robust_setting : goal.returns-in_err-write_robust_setting
unfolding asked items
returns-in_err-write_robust_setting g c =
    writes_as (pieces c.args.transformers.now c.args.setting.now c.args.tolerance c.args.rows.now)
    (writes_then c.in_ok-write_word.ensures (writes_stop _ c.in_err-write_robust_setting.ensures c.from_residual-in_err-write_robust_setting.ensures.1))

pub returns-in_err-write_transformers : goal.returns-in_err-write_transformers
unfolding asked items
returns-in_err-write_transformers g c =
    writes_as (pieces c.args.transformers.now c.args.setting.now c.args.tolerance c.args.rows.now)
    (writes_then c.in_ok-write_word.ensures (writes_then c.in_ok-write_robust_setting.ensures (writes_stop _ c.in_err-write_transformers.ensures c.from_residual-in_err-write_transformers.ensures.1)))

pub returns : goal.returns
unfolding asked items
returns g c =
    writes_as (pieces c.args.transformers.now c.args.setting.now c.args.tolerance c.args.rows.now)
    (writes_then c.in_ok-write_word.ensures (writes_then c.in_ok-write_robust_setting.ensures (writes_then c.in_ok-write_transformers.ensures c.write_word-2.ensures)))
