use Rattle.std.proofs.Common.{◌≡◌, ◌∙◌, ℕ, ◌<◌, List, length, map, get_or, ap, sym, arith}
use Rattle.std.proofs.lemmas.List.{get_or_default}
use Rattle.std.proofs.lemmas.Option.{get_or_from_slice_get}
use Rattle.gic_case.specs.declared.item.Transformer.{Transformer}
use Rattle.gic_fixed.specs.Ends.{ends_of, zero_ends}
use Rattle.gic_report.specs.declared.counts.Counts.{Counts}
use Rattle.gic_report.specs.Counts.{counted, total_of}
use Rattle.gic_report.proofs.CountedVerdicts.{total_at, counts_next}
use Rattle.gic_criteria.specs.declared.criterion.Verdict.{Verdict}
use Rattle.gic_worst.specs.declared.rows.ScreenRow.{ScreenRow}
use Rattle.gic_report.specs.VerdictText.{verdict_in}
use Rattle.gic_worst.specs.RightRows.{worst_verdict_at}
use Rattle.gic_worst.specs.Rows.{screen_row_of}
use Rattle.gic_winding.specs.Weights.{transformer_at, no_transformer}
use Rattle.gic_outage.specs.Outages.{worst_at}
use Rattle.gic_outage.specs.Taking.{worsts_in}
use Rattle.gic_outage.proofs.Raised.{row_shown}
use Rattle.gic_outage.proofs.counting.count_verdicts.Goals as goal

pub counted-counts-requires : goal.counted-counts-requires
counted-counts-requires c =
    let l = c.loop-place in
    let said : ℕ → Verdict = λ t. worst_verdict_at c.args.case.now c.args.threshold t (worst_at (worsts_in (map screen_row_of c.args.rows.now)) t) in
    let total = ap (λ (counts : Counts). total_of counts) l.invariant in
    omega (arith, total, total_at said l.place, c.loop-place-test.true, ap length c.transformers-transformer-items.ensures.value, c.transformers-transformer-items.ensures.sound.few_transformers)

pub loop-place-preserved : goal.loop-place-preserved
loop-place-preserved c =
    let l = c.loop-place in
    let case = c.args.case.now in
    let rows = c.args.rows.now in
    let threshold = c.args.threshold in
    let worsts = worsts_in (map screen_row_of rows) in
    let row = c.index-rows-place.result in
    let said : ℕ → Verdict = λ t. worst_verdict_at case threshold t (worst_at worsts t) in
    let first : l.place < length case.transformers = omega (arith, c.loop-place-test.true, ap length c.transformers-transformer-items.ensures.value) in
    let transformer : c.transformer-item.result ≡ transformer_at case l.place =
    c.transformer-item.is ∙ get_or_default c.transformers-transformer-items.result.now l.place c.transformer-item.result no_transformer c.loop-place-test.true
    ∙ ap (λ (ts : List Transformer). get_or ts l.place no_transformer) c.transformers-transformer-items.ensures.value in
    let shown : worst_at worsts l.place ≡ ends_of row.worst =
    get_or_from_slice_get worsts l.place (ends_of row.worst) zero_ends (row_shown rows row l.place (omega (arith, first, c.requires)) c.index-rows-place.is) in
    let row_is : ends_of (get_or rows l.place row).worst ≡ ends_of row.worst = ap (λ (r : ScreenRow). ends_of r.worst) (sym c.index-rows-place.is) in
    let this : c.verdict_in-said.result ≡ said l.place =
    c.verdict_in-said.ensures ∙ ap (verdict_in threshold c.transformer-item.result) (row_is ∙ sym shown)
    ∙ ap (λ t. verdict_in threshold t (worst_at worsts l.place)) transformer in
    c.counted-counts.ensures ∙ ap (counted l.counts) this ∙ ap (λ (counts : Counts). counted counts (said l.place)) l.invariant ∙ sym (counts_next said l.place)
