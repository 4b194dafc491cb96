use Rattle.std.proofs.Common.{◌≡◌, ◌+◌, ◌-◌, ◌<◌, length, slice_index_or, arith, ap, sym, subst, ◌∙◌}
use Rattle.std.proofs.lemmas.List.{length-set}
use Rattle.gic_effective.proofs.Filled.{filled}
use Rattle.gic_series.specs.Rows.{no_series_row, series_row_of, series_row_at}
use Rattle.gic_series.specs.RightSeries.{IsRightSeriesRow}
use Rattle.gic_series.proofs.steps.fill_rows.Goals as goal

pub loop-place-preserved : goal.loop-place-preserved
loop-place-preserved c =
    let inputs = c.args.inputs.now in
    let i = c.loop-place.invariant in
    let at = c.loop-place.place in
    let rows = c.loop-place.rows in
    let row = series_row_of c.row_of_step-row.result in
    let inside : at < length rows = omega (arith, c.loop-place-test.true, c.steps-place-end.ensures.value, i.one_each) in
    record {
      shows = c.row_of_step-row.ensures.shows;
      one_each = ap length c.set.ensures ∙ length-set rows at row ∙ i.one_each;
      filled = λ k below. subst (λ rows. IsRightSeriesRow inputs c.args.transformer (k + 1) (slice_index_or rows k no_series_row)) (sym c.set.ensures)
          (filled (λ k row. IsRightSeriesRow inputs c.args.transformer (k + 1) row) rows no_series_row row at inside i.filled c.row_of_step-row.ensures.right k below);
    }

pub returns : goal.returns
returns c =
    let inputs = c.args.inputs.now in
    let i = c.loop-place.invariant in
    record {
      one_each = i.one_each;
      right = λ number step.
          let same : (number - 1) + 1 ≡ number = omega (arith, step.least) in
          subst (λ n. IsRightSeriesRow inputs c.args.transformer n (series_row_at c.loop-place.rows (number - 1))) same
          (i.filled (number - 1) (omega (arith, step.least, step.most, c.loop-place-test.false, c.steps-place-end.ensures.value)));
    }
