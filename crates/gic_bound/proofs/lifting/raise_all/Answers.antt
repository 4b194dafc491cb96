use Rattle.std.proofs.Common.{◌≡◌, ◌<◌, ◌≤◌, List, ℕ, length, slice_index, sum, arith, subst, sym, ◌∙◌, true≢false, ap}
use Rattle.gic_bound.specs.Caps.{cap_entry}
use Rattle.gic_model.proofs.Ends.{standing_within}
use Rattle.gic_net.specs.Net.{standing, stands}
use Rattle.gic_bound.specs.Starting.{IsUnderHeld}
use Rattle.gic_bound.proofs.Rising.{IsEnough, enough_so_far, enough_when_not_small, so_far}
use Rattle.gic_bound.proofs.Held.{under_on, least_held}
use Rattle.gic_bound.proofs.lifting.raise_all.Goals as goal
use Rattle.gic_bound.proofs.lifting.raise_all.Goals.{then-raise_if_small, else-raise_if_small}

pub loop-node-preserved : goal.loop-node-preserved
loop-node-preserved c =
    let all = standing c.args.net.now in
    let i = c.loop-node.invariant in
    let n = c.loop-node.node in
    let low = slice_index c.args.out.now in
    let cap = cap_entry (standing c.args.net.now) c.args.cap.now in
    let out = c.loop-node.out in
    let before = so_far c.loop-node.raised (sum c.args.out.now) (sum out) i.higher i.not_lower in
    let one = c.raise_if_small.ensures in
    let under = under_on all low cap (slice_index out) (slice_index c.raise_if_small.new.out) i.under one.under in
    elim c.if-raise_if_small.branch [
      | then-raise_if_small w ↦
          let is : c.if-raise_if_small.out ≡ w.follow-looks.new.out = w.out-is in
          let two = w.follow-looks.ensures in
          let more = one.higher w.if-raise_if_small.true in
          record {
            count = ap length is ∙ two.same_length ∙ one.same_length ∙ i.count;
            under = subst (λ (vs : List ℕ). IsUnderHeld all low cap (slice_index vs)) (sym is) (under_on all low cap (slice_index c.raise_if_small.new.out) (slice_index w.follow-looks.new.out) under two.under);
            enough = λ e. absurd (true≢false (sym w.raised-is ∙ e));
            higher = λ _. omega (arith, before, ap sum is, more, two.not_lower);
            not_lower = λ e. absurd (true≢false (sym w.raised-is ∙ e));
          }
      | else-raise_if_small w ↦
          let is : c.if-raise_if_small.out ≡ out = w.out-is ∙ one.same w.if-raise_if_small.false in
          let enough = enough_when_not_small all cap (slice_index out) n (λ small. true≢false (sym (one.small.1 small) ∙ w.if-raise_if_small.false)) in
          record {
            count = ap length is ∙ i.count;
            under = subst (λ (vs : List ℕ). IsUnderHeld all low cap (slice_index vs)) (sym is) i.under;
            enough = λ e k h. subst (λ (vs : List ℕ). IsEnough all cap (slice_index vs) k) (sym is) (enough_so_far all cap (slice_index out) n (i.enough (sym w.raised-is ∙ e)) enough k h);
            higher = λ e. subst (λ (vs : List ℕ). sum c.args.out.now < sum vs) (sym is) (i.higher (sym w.raised-is ∙ e));
            not_lower = λ e. subst (λ (vs : List ℕ). sum c.args.out.now ≤ sum vs) (sym is) (i.not_lower (sym w.raised-is ∙ e));
          }
    ]

pub returns-clause-least : goal.returns-clause-least
returns-clause-least c = λ none.
    let net = c.args.net.now in
    let i = c.loop-node.invariant in
    least_held net.network.nodes (standing net) (standing_within net.network (stands net) c.nodes-node-end.ensures.limits) (slice_index c.args.out.now) (cap_entry (standing c.args.net.now) c.args.cap.now) (slice_index c.loop-node.out) i.under
    (λ k h. i.enough none k (omega (arith, h, c.nodes-node-end.ensures.value, c.loop-node-test.false, c.loop-node.auto.node-end)))
