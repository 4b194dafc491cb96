use Rattle.std.proofs.Common.{◌^◌, ◌<◌, length, slice_index_or, rules, ap, sym, subst, ◌∙◌}
use Rattle.std.proofs.lemmas.List.{length-set}
use Rattle.gic_effective.proofs.Filled.{filled}
use Rattle.gic_enclose.specs.Ends.{potential_ends}
use Rattle.gic_fixed.specs.Encloses.{IsWithin}
use Rattle.gic_fixed.specs.Ends.{ends_of, zero_ends}
use Rattle.gic_model.specs.Voltages.{number_at}
use Rattle.gic_net.specs.Net.{standing}
use Rattle.gic_grounds.specs.OwnCurrent.{IsOwnCurrent}
use Rattle.gic_grounds.proofs.own.fill_own.Goals as goal

pub loop-transformer-preserved : goal.loop-transformer-preserved
loop-transformer-preserved c =
    let i = c.loop-transformer.invariant in
    let xs = c.loop-transformer.out in
    let at = c.loop-transformer.transformer in
    let x = ends_of c.effective_na_interval-interval.result in
    let new = c.set.new.self in
    let IsOwn = IsOwnCurrent c.args.case.now (standing c.args.net.now) (number_at c.args.volts.now) c.args.potentials.now in
    let inside : at < length xs = search (rules, c.loop-transformer-test.true, c.transformers.ensures.value, c.requires.space, i.same_count) in
    record {
      each = λ t below. subst (λ ys. IsOwn t (slice_index_or ys t zero_ends)) (sym c.set.ensures)
          (filled IsOwn xs zero_ends x at inside (i.each)
          (record { holds = c.effective_na_interval-interval.ensures.holds; tight = c.effective_na_interval-interval.ensures.tight }) t below);
      within = λ t below. subst (λ ys. IsWithin (2 ^ 80) (potential_ends ys t).low (potential_ends ys t).high) (sym c.set.ensures)
          (filled (λ k e. IsWithin (2 ^ 80) e.low e.high) xs zero_ends x at inside (i.within) c.effective_na_interval-interval.ensures.small t below);
      same_count = ap length c.set.ensures ∙ length-set xs at x ∙ i.same_count;
    }
