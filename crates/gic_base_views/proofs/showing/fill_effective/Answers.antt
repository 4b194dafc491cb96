use Rattle.std.proofs.Common.{◌≡◌, ℕ, ◌<◌, length, slice_index_or, slice_set, rules, ap, sym, subst, ◌∙◌}
use Rattle.std.proofs.lemmas.List.{length-set}
use Rattle.gic_fixed.specs.Ends.{Ends, ends_of, zero_ends}
use Rattle.gic_view.specs.Bounds.{FitsView}
use Rattle.gic_view.specs.View.{View}
use Rattle.gic_superpose.specs.Rows.{row_at}
use Rattle.gic_superpose.specs.Superposed.{superposed}
use Rattle.gic_view.proofs.Alone.{effective_alone}
use Rattle.gic_effective.proofs.Filled.{filled}
use Rattle.gic_base_views.proofs.showing.fill_effective.Goals as goal

pub loop-transformer-preserved : goal.loop-transformer-preserved
loop-transformer-preserved c =
    let P : ℕ → Ends → Type 0 = λ t e. e ≡ superposed c.args.fields.now (row_at c.args.rows.now t) in
    let Q : ℕ → Ends → Type 0 = λ t e. FitsView e in
    let i = c.loop-transformer.invariant in
    let xs = c.loop-transformer.out.effective in
    let at = c.loop-transformer.transformer in
    let x = ends_of c.superposed-interval.result in
    let new = c.set_effective.new.self in
    let lists : new.effective ≡ slice_set xs at x = ap (λ (v : View). v.effective) c.set_effective.ensures in
    let inside : at < length xs = search (rules, c.loop-transformer-test.true, c.sizes-count.ensures, i.count) in
    record {
      shown = λ t below. subst (λ ys. P t (slice_index_or ys t zero_ends)) (sym lists) (filled P xs zero_ends x at inside i.shown c.superposed-interval.ensures.value t below);
      small = λ t below. subst (λ ys. Q t (slice_index_or ys t zero_ends)) (sym lists) (filled Q xs zero_ends x at inside i.small c.superposed-interval.ensures.small t below);
      rest = effective_alone c.args.out.now c.loop-transformer.out new (slice_set xs at x) i.rest c.set_effective.ensures;
      count = ap length lists ∙ length-set xs at x ∙ i.count;
    }
