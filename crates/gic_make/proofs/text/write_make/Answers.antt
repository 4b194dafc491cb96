use Rattle.std.proofs.Common.{◌≡◌, ℕ, ◌++◌}
use Rattle.std.specs.Prelude.{codes}
use Rattle.gic_text.specs.Lines.{line_text, lines_text}
use Rattle.gic_report.specs.SharedLines.{word_line}
use Rattle.gic_make.specs.declared.text.Summary.{Summary}
use Rattle.gic_make.specs.MakeText.{seed_line, summary_lines, make_text}
use Rattle.gic_report.proofs.Chained.{writes_as, writes_then, writes_stop}
use Rattle.gic_report.proofs.Framed.{framed}
use Rattle.gic_make.proofs.text.write_make.Goals as goal

-- the report in the pieces in which it is written
pieces : (seed size : ℕ) (shown : Summary)
    → line_text (word_line (codes "make")) ++ (line_text (seed_line seed size) ++ (lines_text (summary_lines shown) ++ line_text (word_line (codes "end")))) ≡ make_text seed size shown
pieces seed size shown = framed (word_line (codes "make")) (seed_line seed size) (summary_lines shown) (word_line (codes "end"))

pub returns-in_err-write_word : goal.returns-in_err-write_word
returns-in_err-write_word g c =
    writes_as (pieces c.args.seed c.args.size c.args.summary.now)
    (writes_stop _ c.in_err-write_word.ensures c.from_residual.ensures.1)

pub returns-in_err-write_seed : goal.returns-in_err-write_seed
returns-in_err-write_seed g c =
    writes_as (pieces c.args.seed c.args.size c.args.summary.now)
    (writes_then c.in_ok-write_word.ensures (writes_stop _ c.in_err-write_seed.ensures c.from_residual-in_err-write_seed.ensures.1))

pub returns-in_err-write_summary : goal.returns-in_err-write_summary
returns-in_err-write_summary g c =
    writes_as (pieces c.args.seed c.args.size c.args.summary.now)
    (writes_then c.in_ok-write_word.ensures (writes_then c.in_ok-write_seed.ensures (writes_stop _ c.in_err-write_summary.ensures c.from_residual-in_err-write_summary.ensures.1)))

pub returns : goal.returns
returns g c =
    writes_as (pieces c.args.seed c.args.size c.args.summary.now)
    (writes_then c.in_ok-write_word.ensures (writes_then c.in_ok-write_seed.ensures (writes_then c.in_ok-write_summary.ensures c.write_word-2.ensures)))
