use Rattle.std.proofs.Common.{◌<◌, List, length, slice_index_or, arith, ap, sym, subst, ◌∙◌}
use Rattle.std.proofs.lemmas.List.{length-set}
use Rattle.gic_effective.proofs.Filled.{filled}
use Rattle.gic_grounds.specs.declared.workspace.VariedWorkspace.{VariedWorkspace}
use Rattle.gic_grounds.specs.Tolerated.{tolerated, AreNetsOf}
use Rattle.gic_model.specs.Voltages.{number_at}
use Rattle.gic_worst.specs.Rows.{ScreenRowView, no_screen_row, screen_row_of}
use Rattle.gic_robust.specs.RightRobust.{IsRobustRow}
use Rattle.gic_robust.proofs.Referred.{still_referred, still_references, keeps_on}
use Rattle.gic_robust.proofs.rows.fill_rows.Goals as goal

pub row_of-row-requires-clause-references : goal.row_of-row-requires-clause-references
row_of-row-requires-clause-references c =
    still_references c.args.varied.now c.loop-transformer.varied c.loop-transformer.invariant.rest c.requires.references

pub loop-transformer-preserved : goal.loop-transformer-preserved
loop-transformer-preserved c =
    let i = c.loop-transformer.invariant in
    let case = c.args.case.now in
    let at = c.loop-transformer.transformer in
    let rows = c.loop-transformer.rows in
    let varied = c.loop-transformer.varied in
    let north = number_at c.args.volts.now.north in
    let east = number_at c.args.volts.now.east in
    let row = screen_row_of c.row_of-row.result in
    let inside : at < length rows = omega (arith, c.loop-transformer-test.true, i.count, ap length c.transformers.ensures.value) in
    record {
      right = λ switched percent nets referred t below.
          let v = tolerated case switched percent in
          let kept : AreNetsOf v varied.nets = subst (λ (w : VariedWorkspace). AreNetsOf v w.nets) (sym i.rest) nets in
          let here = c.row_of-row.ensures.right switched percent kept (still_referred case north east c.args.varied.now varied i.rest referred) in
          subst (λ (rs : List ScreenRowView). IsRobustRow v north east t (slice_index_or rs t no_screen_row)) (sym c.set.ensures)
          (filled (λ k r. IsRobustRow v north east k r) rows no_screen_row row at inside
          (i.right switched percent nets referred) here t below);
      count = ap length c.set.ensures ∙ length-set rows at row ∙ i.count;
      ready = c.row_of-row.ensures.ready;
      rest = keeps_on c.args.varied.now varied c.row_of-row.new.varied i.rest c.row_of-row.ensures.rest;
    }
