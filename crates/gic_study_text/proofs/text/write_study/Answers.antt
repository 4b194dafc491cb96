use Rattle.std.proofs.Common.{◌≡◌, ◌++◌, ℕ, Option, List, map, refl}
use Rattle.std.specs.Prelude.{codes}
use Rattle.gic_case.specs.Lists.{Lists}
use Rattle.gic_view.specs.View.{View}
use Rattle.gic_text.specs.Lines.{line_text, lines_text}
use Rattle.gic_report.specs.SharedLines.{word_line}
use Rattle.gic_report.proofs.Chained.{writes_as, writes_then, writes_stop}
use Rattle.gic_study_text.specs.StudyText.{DetailView, monitor_texts, study_lines, study_text}
use Rattle.gic_study_text.specs.Given.{lent_detail}
use Rattle.gic_study_text.specs.declared.text.Setting.{Setting}
use Rattle.gic_study_text.proofs.text.write_study.Goals as goal

prefix : Lists → Setting → Option DetailView → View → List ℕ
prefix case s detail peaks = lines_text (study_lines case s.width s.threshold s.steps detail peaks)

monitors : List (List ℕ) → List ℕ
monitors texts = monitor_texts 1 texts

close : List ℕ
close = line_text (word_line (codes "end"))

-- the text in the pieces in which it is written
pieces : (case : Lists) (s : Setting) (detail : Option DetailView) (peaks : View) (texts : List (List ℕ))
    → prefix case s detail peaks ++ (monitors texts ++ close) ≡ study_text case s.width s.threshold s.steps detail peaks texts
unfolding prefix monitors close
pieces case s detail peaks texts = refl

pub returns-in_err-write_lines : goal.returns-in_err-write_lines
unfolding prefix monitors close
returns-in_err-write_lines g c =
    writes_as (pieces c.args.case.now c.args.setting.now (lent_detail c.args.detail) c.args.peaks.now (map (λ t. t.items) c.args.texts.now))
    (writes_stop _ c.in_err-write_lines.ensures c.from_residual.ensures.1)

pub returns-in_err-write_monitors : goal.returns-in_err-write_monitors
unfolding prefix monitors close
returns-in_err-write_monitors g c =
    writes_as (pieces c.args.case.now c.args.setting.now (lent_detail c.args.detail) c.args.peaks.now (map (λ t. t.items) c.args.texts.now))
    (writes_then c.in_ok-write_lines.ensures (writes_stop _ c.in_err-write_monitors.ensures c.from_residual-in_err-write_monitors.ensures.1))

pub returns : goal.returns
unfolding prefix monitors close
returns g c =
    writes_as (pieces c.args.case.now c.args.setting.now (lent_detail c.args.detail) c.args.peaks.now (map (λ t. t.items) c.args.texts.now))
    (writes_then c.in_ok-write_lines.ensures (writes_then c.in_ok-write_monitors.ensures c.write_word.ensures))
