use Rattle.std.proofs.Common.{◌≡◌, ℕ, slice_get, ap, sym, ◌∙◌}
use Rattle.gic_case.specs.Windings.{windings_of}
use Rattle.gic_report.specs.ItemText.{winding_rows}
use Rattle.gic_report.proofs.RowHeads.{three_rows}
use Rattle.gic_report.proofs.rows.winding_rows.Goals as goal

pub returns-in-Some : goal.returns-in-Some
returns-in-Some c =
    let t = c.args.transformer.now in
    let same : c.as_slice-windings.result.now ≡ windings_of t = c.as_slice-windings.ensures.value ∙ c.windings-windings.ensures in
    let at : (k : ℕ) → slice_get (winding_rows t.name c.as_slice-windings.result.now) k ≡ slice_get (winding_rows t.name (windings_of t)) k = λ k. ap (λ ws. slice_get (winding_rows t.name ws) k) same in
    rw (c.winding_row-second.ensures ∙ at 1, c.winding_row-third.ensures ∙ at 2) (three_rows t.name t c.in-Some.first (sym c.in-Some.is ∙ c.winding_row-first.ensures ∙ at 0))
