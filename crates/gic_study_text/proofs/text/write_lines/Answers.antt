use Rattle.std.proofs.Common.{◌≡◌, ◌++◌, ℕ, Option, List, ◌∷◌, sym, ap}
use Rattle.std.specs.Prelude.{codes}
use Rattle.gic_case.specs.Lists.{Lists}
use Rattle.gic_view.specs.View.{View}
use Rattle.gic_text.specs.Lines.{line_text, lines_text}
use Rattle.gic_text.proofs.Joined.{lines_text-append}
use Rattle.gic_report.specs.SharedLines.{word_line}
use Rattle.gic_report.proofs.Chained.{writes_as, writes_then, writes_stop}
use Rattle.gic_study_text.specs.StudyText.{DetailView, detail_block, peak_lines, study_setting_line, study_lines}
use Rattle.gic_study_text.specs.Given.{lent_detail}
use Rattle.gic_study_text.specs.declared.text.Setting.{Setting}
use Rattle.gic_study_text.proofs.text.write_lines.Goals as goal

title : List ℕ
title = line_text (word_line (codes "study"))

asked : Setting → List ℕ
asked s = line_text (study_setting_line s.width s.threshold s.steps)

block : Lists → Option DetailView → List ℕ
block case detail = lines_text (detail_block case detail)

mark : List ℕ
mark = line_text (word_line (codes "peaks"))

shown : Lists → Setting → View → List ℕ
shown case s peaks = lines_text (peak_lines case s.threshold peaks)

-- the lines in the pieces in which they are written
pieces : (case : Lists) (s : Setting) (detail : Option DetailView) (peaks : View)
    → title ++ (asked s ++ (block case detail ++ (mark ++ shown case s peaks))) ≡ lines_text (study_lines case s.width s.threshold s.steps detail peaks)
unfolding title asked block mark shown
pieces case s detail peaks =
    sym (ap (λ l. line_text (word_line (codes "study")) ++ (line_text (study_setting_line s.width s.threshold s.steps) ++ l))
    (lines_text-append (detail_block case detail) (word_line (codes "peaks") ∷ peak_lines case s.threshold peaks)))

pub returns-in_err-write_word : goal.returns-in_err-write_word
unfolding title asked block mark shown
returns-in_err-write_word g c =
    writes_as (pieces c.args.case.now c.args.setting.now (lent_detail c.args.detail) c.args.peaks.now)
    (writes_stop _ c.in_err-write_word.ensures c.from_residual.ensures.1)

pub returns-in_err-write_setting : goal.returns-in_err-write_setting
unfolding title asked block mark shown
returns-in_err-write_setting g c =
    writes_as (pieces c.args.case.now c.args.setting.now (lent_detail c.args.detail) c.args.peaks.now)
    (writes_then c.in_ok-write_word.ensures (writes_stop _ c.in_err-write_setting.ensures c.from_residual-in_err-write_setting.ensures.1))

pub returns-in_err-write_detail_block : goal.returns-in_err-write_detail_block
unfolding title asked block mark shown
returns-in_err-write_detail_block g c =
    writes_as (pieces c.args.case.now c.args.setting.now (lent_detail c.args.detail) c.args.peaks.now)
    (writes_then c.in_ok-write_word.ensures (writes_then c.in_ok-write_setting.ensures (writes_stop _ c.in_err-write_detail_block.ensures c.from_residual-in_err-write_detail_block.ensures.1)))

pub returns-in_err-write_word-2 : goal.returns-in_err-write_word-2
unfolding title asked block mark shown
returns-in_err-write_word-2 g c =
    writes_as (pieces c.args.case.now c.args.setting.now (lent_detail c.args.detail) c.args.peaks.now)
    (writes_then c.in_ok-write_word.ensures (writes_then c.in_ok-write_setting.ensures (writes_then c.in_ok-write_detail_block.ensures (writes_stop _ c.in_err-write_word-2.ensures c.from_residual-in_err-write_word-2.ensures.1))))

pub returns : goal.returns
unfolding title asked block mark shown
returns g c =
    writes_as (pieces c.args.case.now c.args.setting.now (lent_detail c.args.detail) c.args.peaks.now)
    (writes_then c.in_ok-write_word.ensures (writes_then c.in_ok-write_setting.ensures (writes_then c.in_ok-write_detail_block.ensures (writes_then c.in_ok-write_word-2.ensures c.write_peaks.ensures))))
