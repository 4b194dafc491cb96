use Rattle.std.proofs.Common.{◌≡◌, ◌<◌, length, slice_index_or, slice_set, None, rules, ap, sym, subst, ◌∙◌}
use Rattle.std.proofs.lemmas.List.{length-set}
use Rattle.gic_model.specs.Voltages.{number_at}
use Rattle.gic_net.specs.Net.{standing}
use Rattle.gic_view.specs.View.{View}
use Rattle.gic_view.specs.Kept.{optional_ends}
use Rattle.gic_effective.specs.Shown.{IsShownElement}
use Rattle.gic_view.proofs.Alone.{elements_alone}
use Rattle.gic_effective.proofs.Filled.{filled}
use Rattle.gic_effective.proofs.view.fill_elements.Goals as goal

pub loop-place-preserved : goal.loop-place-preserved
loop-place-preserved c =
    let i = c.loop-place.invariant in
    let xs = c.loop-place.out.elements in
    let at = c.loop-place.place in
    let x = optional_ends c.element_interval-interval.result in
    let new = c.set_element.new.self in
    let lists : new.elements ≡ slice_set xs at x = ap (λ (v : View). v.elements) c.set_element.ensures in
    let inside : at < length xs = search (rules, c.loop-place-test.true, c.sizes-count.ensures, i.count) in
    record {
      shown = λ k below. subst (λ ys. IsShownElement (standing c.args.net.now) (number_at c.args.volts.now) c.args.potentials.now k (slice_index_or ys k None)) (sym lists)
          (filled (IsShownElement (standing c.args.net.now) (number_at c.args.volts.now) c.args.potentials.now) xs None x at inside (i.shown) (c.element_interval-interval.ensures.shown) k below);
      rest = elements_alone c.args.out.now c.loop-place.out new (slice_set xs at x) i.rest c.set_element.ensures;
      count = ap length lists ∙ length-set xs at x ∙ i.count;
    }
