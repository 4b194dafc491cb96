use Rattle.std.proofs.Common.{◌≡◌, ◌++◌, ap, append-nil, sym}
use Rattle.gic_text.specs.Lines.{line_text, lines_text}
use Rattle.gic_report.specs.Counts.{counts_words}
use Rattle.gic_report.specs.SharedLines.{sizes_line}
use Rattle.gic_report.proofs.Chained.{writes_as, writes_then, writes_stop}
use Rattle.gic_make.specs.declared.text.Summary.{Summary}
use Rattle.gic_make.specs.MakeText.{walk_line, summary_lines}
use Rattle.gic_make.proofs.text.write_summary.Goals as goal

-- the lines in the pieces in which they are written
pieces : (shown : Summary) → line_text (sizes_line shown.nodes shown.elements) ++ (line_text (walk_line shown.walk) ++ line_text (counts_words shown.counts)) ≡ lines_text (summary_lines shown)
pieces shown = ap (λ l. line_text (sizes_line shown.nodes shown.elements) ++ (line_text (walk_line shown.walk) ++ l)) (sym (append-nil (line_text (counts_words shown.counts))))

pub returns-in_err-write_sizes : goal.returns-in_err-write_sizes
returns-in_err-write_sizes g c =
    writes_as (pieces c.args.summary.now)
    (writes_stop _ c.in_err-write_sizes.ensures c.from_residual.ensures.1)

pub returns-in_err-write_walk : goal.returns-in_err-write_walk
returns-in_err-write_walk g c =
    writes_as (pieces c.args.summary.now)
    (writes_then c.in_ok-write_sizes.ensures (writes_stop _ c.in_err-write_walk.ensures c.from_residual-in_err-write_walk.ensures.1))

pub returns : goal.returns
returns g c =
    writes_as (pieces c.args.summary.now)
    (writes_then c.in_ok-write_sizes.ensures (writes_then c.in_ok-write_walk.ensures c.write_counts.ensures))
