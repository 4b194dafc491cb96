use Rattle.std.proofs.Common.{◌≡◌, ◌<◌, true, length, ap, sym, ◌∙◌, inl, inr, arith}
use Rattle.gic_model.specs.Network.{ends_at}
use Rattle.gic_model.specs.Standing.{other_end}
use Rattle.gic_model.specs.Sums.{Placed}
use Rattle.gic_net.specs.Net.{row_at, placed_at}
use Rattle.gic_net.specs.Scratch.{ScratchView}
use Rattle.gic_net.proofs.Joined.{joined_reached}
use Rattle.gic_net.proofs.Steps.{AcrossElement, more_step, each_step, no_other_step}
use Rattle.gic_net.proofs.spread.reach_joined.Goals as goal
use Rattle.gic_net.proofs.spread.reach_joined.Goals.{in-Node, in-Earth}

pub loop-place-preserved : goal.loop-place-preserved
loop-place-preserved c =
    let net = c.args.net.now in
    let k = c.args.node.0 in
    let place = c.loop-place.place in
    let old = c.loop-place.scratch in
    let new = c.match-other_end.scratch in
    let element : (placed_at net k place).1 ≡ c.element-element.result = ap (λ (p : Placed). p.1) c.element_at.ensures.value ∙ sym c.element-element.ensures.value in
    let other : other_end k (placed_at net k place).1 ≡ c.other_end.result = ap (other_end k) element ∙ sym c.other_end.ensures.value in
    let step : AcrossElement (other_end k (placed_at net k place).1) old.reached new.reached = elim c.match-other_end.branch [
      | in-Node w ↦ inl (w.in-Node.other, other ∙ w.in-Node.is, ap (λ (s : ScratchView). s.reached) (w.scratch-is ∙ w.reach.ensures))
      | in-Earth w ↦ inr (other ∙ w.in-Earth.is, ap (λ (s : ScratchView). s.reached) w.scratch-is)
    ] in
    let nodes : new.nodes ≡ old.nodes = elim c.match-other_end.branch [
      | in-Node w ↦ ap (λ (s : ScratchView). s.nodes) (w.scratch-is ∙ w.reach.ensures)
      | in-Earth w ↦ ap (λ (s : ScratchView). s.nodes) w.scratch-is
    ] in
    let inside : place < length (row_at net k) = omega (arith, c.degree-place-end.ensures.value) in
    let ends : ends_at (placed_at net k place).1 k ≡ true = ap (λ (p : Placed). ends_at p.1 k) c.element_at.ensures.value ∙ c.element_at.ensures.ends in
    record {
      nodes = nodes ∙ c.loop-place.invariant.nodes;
      more = more_step net k place c.args.scratch.now.reached old.reached new.reached step c.loop-place.invariant.more;
      each = each_step net k place c.args.scratch.now.reached old.reached new.reached step c.loop-place.invariant.each;
      no_other = no_other_step net k place c.args.scratch.now.reached old.reached new.reached step inside ends c.loop-place.invariant.no_other;
    }

pub returns-clause-gains : goal.returns-clause-gains
returns-clause-gains c =
    let end = c.degree-place-end.ensures.value in
    let test = c.loop-place-test.false in
    record {
      more = c.loop-place.invariant.more.0;
      at_the_end = c.loop-place.invariant.more.1;
      each = joined_reached c.args.net.now c.args.node.0 c.loop-place.scratch.reached (λ j h. c.loop-place.invariant.each j (omega arith));
      no_other = c.loop-place.invariant.no_other;
    }
