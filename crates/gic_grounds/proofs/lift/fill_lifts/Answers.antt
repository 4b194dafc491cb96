use Rattle.std.proofs.Common.{◌≡◌, ◌<◌, ◌≤◌, ◌∙◌, ℕ, List, length, set, arith, ap, sym, subst, ⊎_elim, unsigned_abs, pos, ℤ, to_z, of_z, w64}
use Rattle.std.proofs.lemmas.Bool.{cases_eq, cases_lt}
use Rattle.std.proofs.lemmas.Int.{to_z-of_z, fits_signed_from_abs}
use Rattle.std.proofs.lemmas.List.{get_or_past, length-map, length-set}
use Rattle.gic_model.specs.Limits.{most_wide_volts}
use Rattle.gic_model.specs.Network.{Network}
use Rattle.gic_model.specs.Voltages.{number_at}
use Rattle.gic_varied.specs.Grounds.{regrounded}
use Rattle.gic_grounds.specs.Corner.{is_most_at}
use Rattle.gic_grounds.specs.Lifting.{height_at, lift_at}
use Rattle.gic_grounds.proofs.Raised.{lifts_stand, next_lift}
use Rattle.gic_grounds.proofs.lift.fill_lifts.Goals as goal

pub returns-clause-lifts : goal.returns-clause-lifts
returns-clause-lifts c = λ network stands ranges are.
    let all : length c.args.nets.now.least.network.list ≤ c.loop-place.place = omega arith in
    let same = ap (λ (n : Network). length n.list) are.least_network in
    let count = length-map network.list (regrounded (λ e. (ranges e).least)) in
    lifts_stand network ranges (height_at (is_most_at c.args.corner.now) c.args.side c.args.reference.now) stands c.args.nets.now.least.network
    c.args.nets.now.most.network (number_at c.loop-place.out)
    are.least_network are.most_network (λ place inside. c.loop-place.invariant.filled place (omega (arith, inside, all, same, count)))

pub loop-place-preserved : goal.loop-place-preserved
loop-place-preserved c =
    let place = c.loop-place.place in
    let volt = c.lift_at-nanovolts.result in
    let same : to_z w64 (of_z w64 volt) ≡ volt = to_z-of_z w64 volt
    (fits_signed_from_abs w64 volt (omega (arith, c.lift_at-nanovolts.ensures.limit))) in
    let is : c.set.new.self ≡ set c.loop-place.out place volt = c.set.ensures ∙ ap (λ (z : ℤ). set c.loop-place.out place z) same in
    let inside : place < length c.loop-place.out = omega
    (arith, c.loop-place-test.true, c.count-place-end.ensures.value, c.loop-place.invariant.count) in
    record {
      count = ap (λ (l : List ℤ). length l) is ∙ length-set c.loop-place.out place volt ∙ c.loop-place.invariant.count;
      filled = next_lift (lift_at c.args.nets.now.least.network c.args.nets.now.most.network (height_at (is_most_at c.args.corner.now) c.args.side c.args.reference.now))
          c.loop-place.out c.set.new.self place volt inside is
          c.lift_at-nanovolts.ensures.value c.loop-place.invariant.filled;
      small = λ k less. ⊎_elim
          (λ it. subst (λ (m : ℕ). unsigned_abs (lift_at c.args.nets.now.least.network c.args.nets.now.most.network (height_at (is_most_at c.args.corner.now) c.args.side c.args.reference.now) m) ≤ most_wide_volts) (sym it) (subst (λ (z : ℤ). unsigned_abs z ≤ most_wide_volts) c.lift_at-nanovolts.ensures.value c.lift_at-nanovolts.ensures.limit))
          (λ other. c.loop-place.invariant.small k (omega (arith, less, other)))
          (cases_eq k place);
    }

pub returns-clause-limit : goal.returns-clause-limit
returns-clause-limit c k =
    let all : length c.args.nets.now.least.network.list ≤ c.loop-place.place = omega arith in
    ⊎_elim
    (λ inside.
    let before : k < c.loop-place.place = omega (arith, inside, all, c.loop-place.invariant.count) in
    subst (λ (z : ℤ). unsigned_abs z ≤ most_wide_volts) (sym (c.loop-place.invariant.filled k before)) (c.loop-place.invariant.small k before))
    (λ past. subst (λ (z : ℤ). unsigned_abs z ≤ most_wide_volts) (sym (get_or_past c.loop-place.out k (pos 0) past)) (omega arith))
    (cases_lt k (length c.loop-place.out))
