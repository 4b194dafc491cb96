use Rattle.std.proofs.Common.{◌≡◌, ◌∙◌, List, length, get_or, ap, sym, arith}
use Rattle.std.proofs.lemmas.List.{get_or_default}
use Rattle.gic_case.specs.declared.item.Transformer.{Transformer}
use Rattle.gic_fixed.specs.Ends.{ends_of}
use Rattle.gic_report.specs.VerdictText.{verdict_on, verdict_at}
use Rattle.gic_view.specs.View.{effective_at}
use Rattle.gic_winding.specs.Weights.{transformer_at, no_transformer}
use Rattle.gic_report.specs.declared.counts.Counts.{Counts}
use Rattle.gic_report.specs.Counts.{counted, total_of}
use Rattle.gic_report.proofs.CountedVerdicts.{counts_next, total_at}
use Rattle.gic_make.proofs.counting.count_verdicts.Goals as goal

pub counted-counts-requires : goal.counted-counts-requires
counted-counts-requires c =
    let l = c.loop-place in
    let case = c.args.case.now in
    let total = ap (λ (counts : Counts). total_of counts) l.invariant in
    let each = total_at (verdict_at case c.args.threshold c.args.view.now) l.place in
    omega (arith, total, each, c.loop-place-test.true, ap length c.transformers-transformer-items.ensures.value, c.transformers-transformer-items.ensures.sound.few_transformers)

pub loop-place-preserved : goal.loop-place-preserved
loop-place-preserved c =
    let l = c.loop-place in
    let case = c.args.case.now in
    let view = c.args.view.now in
    let threshold = c.args.threshold in
    let row : c.transformer-item.result ≡ transformer_at case l.place =
    c.transformer-item.is ∙ get_or_default c.transformers-transformer-items.result.now l.place c.transformer-item.result no_transformer c.loop-place-test.true
    ∙ ap (λ (ts : List Transformer). get_or ts l.place no_transformer) c.transformers-transformer-items.ensures.value in
    let effective : ends_of c.effective.result ≡ effective_at view l.place = c.effective.ensures in
    let said : c.verdict_on-said.result ≡ verdict_at case threshold view l.place =
    c.verdict_on-said.ensures ∙ ap (verdict_on threshold c.transformer-item.result) effective ∙ ap (λ t. verdict_on threshold t (effective_at view l.place)) row in
    c.counted-counts.ensures ∙ ap (counted l.counts) said ∙ ap (λ (counts : Counts). counted counts (verdict_at case threshold view l.place)) l.invariant ∙ sym (counts_next (verdict_at case threshold view) l.place)
