use Rattle.std.proofs.Common.{◌≡◌, ℕ, ◌<◌, length, slice_index_or, slice_set, Option, None, rules, ap, sym, subst, ◌∙◌}
use Rattle.std.proofs.lemmas.List.{length-set}
use Rattle.gic_fixed.specs.Ends.{Ends}
use Rattle.gic_model.specs.Standing.{is_standing}
use Rattle.gic_net.specs.Net.{standing}
use Rattle.gic_view.specs.View.{View}
use Rattle.gic_view.specs.Kept.{optional_ends}
use Rattle.gic_superpose.specs.Rows.{row_at}
use Rattle.gic_superpose.specs.Superposed.{superposed}
use Rattle.gic_base_views.specs.Superposed.{shown_where}
use Rattle.gic_view.proofs.Alone.{elements_alone}
use Rattle.gic_effective.proofs.Filled.{filled}
use Rattle.gic_base_views.proofs.showing.fill_elements.Goals as goal

pub loop-place-preserved : goal.loop-place-preserved
loop-place-preserved c =
    let P : ℕ → Option Ends → Type 0 = λ p e. e ≡ shown_where (is_standing (standing c.args.net.now) p) (superposed c.args.fields.now (row_at c.args.rows.now p)) in
    let i = c.loop-place.invariant in
    let xs = c.loop-place.out.elements in
    let at = c.loop-place.place in
    let x = optional_ends c.element_interval-interval.result in
    let new = c.set_element.new.self in
    let lists : new.elements ≡ slice_set xs at x = ap (λ (v : View). v.elements) c.set_element.ensures in
    let inside : at < length xs = search (rules, c.loop-place-test.true, c.sizes-count.ensures, i.count) in
    record {
      shown = λ p below. subst (λ ys. P p (slice_index_or ys p None)) (sym lists) (filled P xs None x at inside i.shown c.element_interval-interval.ensures.shown p below);
      rest = elements_alone c.args.out.now c.loop-place.out new (slice_set xs at x) i.rest c.set_element.ensures;
      count = ap length lists ∙ length-set xs at x ∙ i.count;
    }
