use Rattle.std.proofs.Common.{◌≡◌, ◌+◌, ◌<◌, ◌≤◌, length, arith, ap, sym, subst, ◌∙◌, ℕ, ◌+ℤ◌, ◌*◌, ◌^◌, refl, unsigned_abs}
use Rattle.gic_fixed.specs.Ends.{Ends, ends_of}
use Rattle.gic_model.specs.Standing.{standing_elements}
use Rattle.gic_net.specs.Net.{element_of, stands}
use Rattle.gic_varied.specs.Certified.{product_at}
use Rattle.gic_varied.specs.Corners.{corner_ohm}
use Rattle.gic_varied.specs.Enclosure.{enclosure_of}
use Rattle.gic_varied.specs.Grounds.{is_ground}
use Rattle.gic_grounds.specs.Corner.{is_most_at}
use Rattle.gic_grounds.specs.Varying.{intervals_of, stray_power_at}
use Rattle.gic_grounds.proofs.Strayed.{sum_from, next_stray, next_sum, next_small, sum_fits, chosen, end_is}
use Rattle.gic_grounds.proofs.sum.enclosure.Goals as goal

pub loop-place-init : goal.loop-place-init
loop-place-init c = record {
  low = refl;
  high = refl;
  small = record { low = omega (arith, c.requires.own.low); high = omega (arith, c.requires.own.high) };
}

pub add-total-requires-clause-low : goal.add-total-requires-clause-low
add-total-requires-clause-low c =
    sum_fits c.loop-place.total.lo c.standing_stray_at-stray.result.lo c.loop-place.place c.loop-place.invariant.small.low
    c.standing_stray_at-stray.ensures.small.low
    (omega (arith, c.loop-place-test.true, c.count-place-end.ensures.value, c.count-place-end.ensures.limits.few_elements))

pub add-total-requires-clause-high : goal.add-total-requires-clause-high
add-total-requires-clause-high c =
    sum_fits c.loop-place.total.hi c.standing_stray_at-stray.result.hi c.loop-place.place c.loop-place.invariant.small.high
    c.standing_stray_at-stray.ensures.small.high
    (omega (arith, c.loop-place-test.true, c.count-place-end.ensures.value, c.count-place-end.ensures.limits.few_elements))

pub loop-place-preserved : goal.loop-place-preserved
loop-place-preserved c =
    let least = c.args.nets.now.least in
    let list = least.network.list in
    let place = c.loop-place.place in
    let e = element_of least.network place in
    let strays = stray_power_at least.network c.args.nets.now.most.network (is_most_at c.args.corner.now) c.args.unit c.args.adjoint.now
    c.args.potentials.now in
    let inside : place < length list = omega (arith, c.loop-place-test.true, c.count-place-end.ensures.value) in
    let low = ap (λ (x : Ends). x.low) c.standing_stray_at-stray.ensures.value
    ∙ chosen (is_ground e) (stands least e.item) (strays place) (λ x. x.low) refl in
    let high = ap (λ (x : Ends). x.high) c.standing_stray_at-stray.ensures.value
    ∙ chosen (is_ground e) (stands least e.item) (strays place) (λ x. x.high) refl in
    let f = λ (k : ℕ). (strays k).low in
    let g = λ (k : ℕ). (strays k).high in
    record {
      low = ap (λ z. z +ℤ sum_from f (stands least) list (place + 1)) c.add-total.ensures.low
          ∙ next_sum c.loop-place.total.lo c.standing_stray_at-stray.result.lo (sum_from f (stands least) list (place + 1))
          (sum_from f (stands least) list place)
          (c.args.own.lo +ℤ sum_from f (stands least) list 0) c.loop-place.invariant.low
          (next_stray f (stands least) list place inside ∙ ap (λ z. z +ℤ sum_from f (stands least) list (place + 1)) (sym low));
      high = ap (λ z. z +ℤ sum_from g (stands least) list (place + 1)) c.add-total.ensures.high
          ∙ next_sum c.loop-place.total.hi c.standing_stray_at-stray.result.hi (sum_from g (stands least) list (place + 1))
          (sum_from g (stands least) list place)
          (c.args.own.hi +ℤ sum_from g (stands least) list 0) c.loop-place.invariant.high
          (next_stray g (stands least) list place inside ∙ ap (λ z. z +ℤ sum_from g (stands least) list (place + 1)) (sym high));
      small = record {
        low = subst (λ z. unsigned_abs z ≤ 2 ^ 100 + (place + 1) * 2 ^ 105) (sym c.add-total.ensures.low)
            (next_small c.loop-place.total.lo c.standing_stray_at-stray.result.lo place c.loop-place.invariant.small.low c.standing_stray_at-stray.ensures.small.low);
        high = subst (λ z. unsigned_abs z ≤ 2 ^ 100 + (place + 1) * 2 ^ 105) (sym c.add-total.ensures.high)
            (next_small c.loop-place.total.hi c.standing_stray_at-stray.result.hi place c.loop-place.invariant.small.high c.standing_stray_at-stray.ensures.small.high);
      };
    }

pub returns-clause-enclosure : goal.returns-clause-enclosure
returns-clause-enclosure c = λ network stays ranges units are same.
    let least = c.args.nets.now.least in
    let corner = is_most_at c.args.corner.now in
    let ends = intervals_of c.args.adjoint.now c.args.potentials.now (ends_of c.args.own) in
    let past : length least.network.list ≤ c.loop-place.place = omega (arith, c.loop-place-test.false, c.count-place-end.ensures.value) in
    let low = end_is network stays ranges corner c.args.unit c.args.adjoint.now c.args.potentials.now (ends_of c.args.own) (λ x. x.low)
    (stands least) least.network c.args.nets.now.most.network
    c.loop-place.total.lo c.args.own.lo c.loop-place.place past c.loop-place.invariant.low are.least_network are.most_network
    are.least_standing in
    let high = end_is network stays ranges corner c.args.unit c.args.adjoint.now c.args.potentials.now (ends_of c.args.own) (λ x. x.high)
    (stands least) least.network c.args.nets.now.most.network
    c.loop-place.total.hi c.args.own.hi c.loop-place.place past c.loop-place.invariant.high are.least_network are.most_network
    are.least_standing in
    subst
    (λ u. ends_of c.loop-place.total ≡ enclosure_of (standing_elements network stays) ranges (corner_ohm ranges corner) u (product_at ends) ends.own) (sym same)
    (λ i. record { low = low i; high = high i })

pub returns-clause-small : goal.returns-clause-small
returns-clause-small c =
    let few : c.loop-place.place ≤ 61440 = omega
    (arith, c.loop-place.auto.place-end, c.count-place-end.ensures.value, c.count-place-end.ensures.limits.few_elements) in
    record { low = omega (arith, c.loop-place.invariant.small.low, few); high = omega (arith, c.loop-place.invariant.small.high, few) }
