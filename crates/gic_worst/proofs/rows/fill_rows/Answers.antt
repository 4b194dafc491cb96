use Rattle.std.proofs.Common.{◌≡◌, ◌<◌, length, slice_index_or, arith, ap, sym, subst, subst₂, ◌∙◌}
use Rattle.std.proofs.lemmas.List.{length-set}
use Rattle.gic_effective.proofs.Filled.{filled}
use Rattle.gic_fixed.specs.Ends.{Ends}
use Rattle.gic_view.specs.View.{effective_at}
use Rattle.gic_worst.specs.Rows.{no_screen_row, screen_row_of, IsRowOf}
use Rattle.gic_worst.proofs.rows.fill_rows.Goals as goal

pub loop-transformer-preserved : goal.loop-transformer-preserved
loop-transformer-preserved c =
    let i = c.loop-transformer.invariant in
    let at = c.loop-transformer.transformer in
    let rows = c.loop-transformer.rows in
    let north = c.args.north.now in
    let east = c.args.east.now in
    let row = screen_row_of c.screen_row-row.result in
    let count : c.sizes-count.result.2 ≡ length north.effective = ap (λ sizes. sizes.2) c.sizes-count.ensures in
    let inside : at < length rows = omega (arith, c.loop-transformer-test.true, count, i.count, c.requires.north_count) in
    let here : IsRowOf (effective_at north at) (effective_at east at) row =
    subst₂ (λ (a b : Ends). IsRowOf a b row) c.effective.ensures c.effective-in-loop-transformer.ensures c.screen_row-row.ensures in
    record {
      filled = λ t below. subst (λ rows. IsRowOf (effective_at north t) (effective_at east t) (slice_index_or rows t no_screen_row)) (sym c.set.ensures)
          (filled (λ t row. IsRowOf (effective_at north t) (effective_at east t) row) rows no_screen_row row at inside i.filled here t below);
      count = ap length c.set.ensures ∙ length-set rows at row ∙ i.count;
    }
