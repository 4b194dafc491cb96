use Rattle.std.proofs.Common.{◌≤◌, length, slice_index, sum, arith, ap, ◌∙◌}
use Rattle.gic_net.specs.Net.{standing}
use Rattle.gic_bound.specs.Caps.{cap_entry}
use Rattle.gic_bound.proofs.Rising.{so_far}
use Rattle.gic_bound.proofs.Held.{under_on}
use Rattle.gic_bound.proofs.lifting.follow.Goals as goal
use Rattle.gic_bound.proofs.lifting.follow.Goals.{then-raise_if_small, else-raise_if_small}

pub loop-looked-preserved : goal.loop-looked-preserved
loop-looked-preserved c =
    let i = c.loop-looked.invariant in
    let one = c.raise_if_small.ensures in
    let before = i.not_lower in
    let more = so_far c.raise_if_small.result (sum c.loop-looked.out) (sum c.raise_if_small.new.out) one.higher (λ e. let same = ap sum (one.same e) in omega (arith, same)) in
    let few : c.if-raise_if_small.count ≤ length c.if-raise_if_small.waiting = elim c.if-raise_if_small.branch [
      | then-raise_if_small w ↦ let same = ap length w.waiting-is in let many = w.count-is in let fits = w.wait_round-count-then-raise_if_small.ensures in omega (arith, same, many, fits)
      | else-raise_if_small w ↦ let same = ap length w.waiting-is in let many = w.count-is in let fits = i.few in omega (arith, same, many, fits)
    ] in
    record {
      nodes = one.same_length ∙ i.nodes;
      under = under_on (standing c.args.net.now) (slice_index c.args.out.now) (cap_entry (standing c.args.net.now) c.args.cap.now) (slice_index c.loop-looked.out) (slice_index c.raise_if_small.new.out) i.under one.under;
      not_lower = omega (arith, before, more);
      few = few;
    }
