use Rattle.std.proofs.Common.{◌≡◌, ◌*◌, length, slice_index, arith, ap, refl, ◌∙◌}
use Rattle.gic_bound.specs.Caps.{cap_entry}
use Rattle.gic_model.proofs.Ends.{standing_within}
use Rattle.gic_net.specs.Net.{standing, stands}
use Rattle.gic_bound.proofs.Rising.{sum_most}
use Rattle.gic_bound.proofs.Held.{under_on, least_on, keeps_shifts}
use Rattle.gic_bound.proofs.lifting.raise_under.Goals as goal

pub loop-smaller : goal.loop-smaller
loop-smaller c =
    let most = sum_most c.raise_all.new.out (λ k. let a = c.loop-test.ensures.under.to_cap k in let b = c.keeps_full.ensures k in omega (arith, a, b)) in
    let count : length c.raise_all.new.out * 4097 ≡ c.args.net.now.network.nodes * 4097 = ap (λ n. n * 4097) (c.loop-test.ensures.same_length ∙ c.loop.invariant.count) in
    omega (arith, most, count, c.loop-test.ensures.higher)

pub loop-preserved : goal.loop-preserved
loop-preserved c = record {
  count = c.loop-test.ensures.same_length ∙ c.loop.invariant.count;
  under = under_on (standing c.args.net.now) (slice_index c.args.out.now) (cap_entry (standing c.args.net.now) c.args.cap.now) (slice_index c.loop.out) (slice_index c.raise_all.new.out) c.loop.invariant.under c.loop-test.ensures.under;
}

pub returns-clause-least : goal.returns-clause-least
returns-clause-least c = least_on (standing c.args.net.now) (slice_index c.args.out.now) (cap_entry (standing c.args.net.now) c.args.cap.now) (slice_index c.loop.out) (slice_index c.raise_all.new.out) c.loop.invariant.under (c.loop-test.ensures.least refl)

pub returns-clause-shifts : goal.returns-clause-shifts
returns-clause-shifts c =
    let net = c.args.net.now in
    keeps_shifts net.network.nodes (standing net) (standing_within net.network (stands net) c.within_limits.ensures) (slice_index c.args.out.now) (cap_entry (standing c.args.net.now) c.args.cap.now) (slice_index c.raise_all.new.out) c.keeps_full.ensures
    (least_on (standing net) (slice_index c.args.out.now) (cap_entry (standing c.args.net.now) c.args.cap.now) (slice_index c.loop.out) (slice_index c.raise_all.new.out) c.loop.invariant.under (c.loop-test.ensures.least refl))
