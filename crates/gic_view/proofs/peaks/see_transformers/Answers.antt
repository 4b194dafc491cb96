use Rattle.std.proofs.Common.{rules, ◌≡◌, ℕ, ◌+◌, ◌<◌, ◌≤ℤ◌, length, slice_set, arith, ap, sym, subst, ◌∙◌, inl, inr}
use Rattle.std.proofs.lemmas.Bool.{cases_lt}
use Rattle.std.proofs.lemmas.List.{length-set}
use Rattle.gic_fixed.specs.Ends.{Ends, zero_ends}
use Rattle.gic_view.specs.View.{View, effective_at}
use Rattle.gic_view.specs.KeptEnds.{kept_ends}
use Rattle.gic_view.specs.Peaks.{greater_ends}
use Rattle.gic_view.specs.Absolute.{absolute_ends}
use Rattle.gic_view.proofs.Alone.{effective_alone}
use Rattle.gic_view.proofs.Written.{IsWritten, written}
use Rattle.gic_view.proofs.peaks.see_transformers.Goals as goal

pub loop-transformer-preserved : goal.loop-transformer-preserved
loop-transformer-preserved c =
    let i = c.loop-transformer.invariant in
    let xs = c.loop-transformer.peaks.effective in
    let at = c.loop-transformer.transformer in
    let x = kept_ends c.raised-seen.result in
    let new = c.keep_effective.new.self in
    let lists : new.effective ≡ slice_set xs at x = ap (λ (v : View). v.effective) c.keep_effective.ensures in
    let inside : at < length xs = search (rules, c.loop-transformer-test.true, c.sizes-count.ensures, c.requires.count, i.count) in
    let before = c.kept_effective.ensures ∙ i.written.ahead at (omega arith) in
    let is = c.raised-seen.ensures
    ∙ ap (λ (e : Ends). greater_ends e (absolute_ends (kept_ends c.kept_effective-in-loop-transformer.result))) before
    ∙ ap (λ (e : Ends). greater_ends (effective_at c.args.peaks.now at) (absolute_ends e)) c.kept_effective-in-loop-transformer.ensures in
    let f = λ (t : ℕ). greater_ends (effective_at c.args.peaks.now t) (absolute_ends (effective_at c.args.view.now t)) in
    record {
      written = subst (λ ys. IsWritten f c.args.peaks.now.effective ys zero_ends (at + 1)) (sym lists) (written f c.args.peaks.now.effective xs zero_ends x at inside is i.written);
      ordered = λ t below. elim (cases_lt t at) [
        | inl less ↦ i.ordered t less
        | inr more ↦ subst (λ n. (effective_at c.args.view.now n).low ≤ℤ (effective_at c.args.view.now n).high) (let e : at ≡ t = omega (arith, more, below) in e)
            (subst (λ (e : Ends). e.low ≤ℤ e.high) c.kept_effective-in-loop-transformer.ensures c.kept_effective-in-loop-transformer.result.ordered)
      ];
      rest = effective_alone c.args.peaks.now c.loop-transformer.peaks new (slice_set xs at x) i.rest c.keep_effective.ensures;
      count = ap length lists ∙ length-set xs at x ∙ i.count;
    }
