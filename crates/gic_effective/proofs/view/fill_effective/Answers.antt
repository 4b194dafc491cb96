use Rattle.std.proofs.Common.{◌≡◌, ◌<◌, length, slice_index_or, slice_set, rules, ap, sym, subst, ◌∙◌}
use Rattle.std.proofs.lemmas.List.{length-set}
use Rattle.gic_fixed.specs.Ends.{ends_of, zero_ends}
use Rattle.gic_model.specs.Voltages.{number_at}
use Rattle.gic_net.specs.Net.{standing}
use Rattle.gic_view.specs.View.{View}
use Rattle.gic_effective.specs.Shown.{IsShownEffective}
use Rattle.gic_view.proofs.Alone.{effective_alone}
use Rattle.gic_effective.proofs.Filled.{filled}
use Rattle.gic_effective.proofs.view.fill_effective.Goals as goal

pub loop-transformer-preserved : goal.loop-transformer-preserved
loop-transformer-preserved c =
    let i = c.loop-transformer.invariant in
    let xs = c.loop-transformer.out.effective in
    let at = c.loop-transformer.transformer in
    let x = ends_of c.effective_interval-interval.result in
    let new = c.set_effective.new.self in
    let lists : new.effective ≡ slice_set xs at x = ap (λ (v : View). v.effective) c.set_effective.ensures in
    let inside : at < length xs = search (rules, c.loop-transformer-test.true, c.sizes-count.ensures, i.count) in
    record {
      shown = λ t below. subst (λ ys. IsShownEffective c.args.case.now (standing c.args.net.now) (number_at c.args.volts.now) c.args.potentials.now t (slice_index_or ys t zero_ends)) (sym lists)
          (filled (IsShownEffective c.args.case.now (standing c.args.net.now) (number_at c.args.volts.now) c.args.potentials.now) xs zero_ends x at inside (i.shown) (c.effective_interval-interval.ensures) t below);
      rest = effective_alone c.args.out.now c.loop-transformer.out new (slice_set xs at x) i.rest c.set_effective.ensures;
      count = ap length lists ∙ length-set xs at x ∙ i.count;
    }
