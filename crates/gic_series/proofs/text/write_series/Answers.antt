use Rattle.std.proofs.Common.{◌≡◌, ◌∙◌, ℕ, List, [], ◌∷◌, ◌++◌, map, length, sym, ap}
use Rattle.std.specs.Prelude.{codes}
use Rattle.std.proofs.lemmas.List.{length-map}
use Rattle.gic_text.specs.Lines.{line_text, lines_text}
use Rattle.gic_report.specs.SharedLines.{Words, word_line}
use Rattle.gic_report.proofs.Chained.{writes_as, writes_then, writes_stop}
use Rattle.gic_report.proofs.Framed.{framed}
use Rattle.gic_series.specs.declared.rows.SeriesRow.{SeriesRow}
use Rattle.gic_series.specs.Rows.{series_row_of}
use Rattle.gic_series.specs.SeriesText.{series_setting_line, series_step_line, series_report}
use Rattle.gic_series.proofs.text.write_series.Goals as goal

-- the line of what is asked, with the count that is passed, and the lines of the steps
asked : ℕ → List ℕ → List SeriesRow → Words
asked width name rows = series_setting_line width name (length rows)

steps : List SeriesRow → List Words
steps rows = map series_step_line (map series_row_of rows)

-- the report in the pieces in which it is written
pieces : (width : ℕ) (name : List ℕ) (rows : List SeriesRow)
    → line_text (word_line (codes "series")) ++ (line_text (asked width name rows) ++ (lines_text (steps rows) ++ line_text (word_line (codes "end"))))
    ≡ lines_text (series_report width name (map series_row_of rows))
unfolding asked steps
pieces width name rows =
    framed (word_line (codes "series")) (asked width name rows) (steps rows) (word_line (codes "end"))
    ∙ ap (λ (n : ℕ). lines_text (word_line (codes "series") ∷ series_setting_line width name n ∷ (map series_step_line (map series_row_of rows) ++ word_line (codes "end") ∷ []))) (sym (length-map rows series_row_of))

pub returns-in_err-write_word : goal.returns-in_err-write_word
unfolding asked steps
returns-in_err-write_word g c =
    writes_as (pieces c.args.width c.args.name.now c.args.rows.now)
    (writes_stop _ c.in_err-write_word.ensures c.from_residual.ensures.1)

pub returns-in_err-write_setting : goal.returns-in_err-write_setting
unfolding asked steps
returns-in_err-write_setting g c =
    writes_as (pieces c.args.width c.args.name.now c.args.rows.now)
    (writes_then c.in_ok-write_word.ensures (writes_stop _ c.in_err-write_setting.ensures c.from_residual-in_err-write_setting.ensures.1))

pub returns-in_err-write_steps : goal.returns-in_err-write_steps
unfolding asked steps
returns-in_err-write_steps g c =
    writes_as (pieces c.args.width c.args.name.now c.args.rows.now)
    (writes_then c.in_ok-write_word.ensures (writes_then c.in_ok-write_setting.ensures (writes_stop _ c.in_err-write_steps.ensures c.from_residual-in_err-write_steps.ensures.1)))

pub returns : goal.returns
unfolding asked steps
returns g c =
    writes_as (pieces c.args.width c.args.name.now c.args.rows.now)
    (writes_then c.in_ok-write_word.ensures (writes_then c.in_ok-write_setting.ensures (writes_then c.in_ok-write_steps.ensures c.write_word-2.ensures)))
