use Rattle.std.proofs.Common.{ℕ, arith, subst, sym, ⊎_elim}
use Rattle.std.proofs.lemmas.Bool.{cases_eq}
use Rattle.gic_model.specs.Standing.{IsLive}
use Rattle.gic_model.specs.Guess.{IsSettledAt}
use Rattle.gic_model.proofs.Ends.{live_within, standing_within}
use Rattle.gic_net.specs.Net.{standing, stands}
use Rattle.gic_sweep.proofs.Closeness.{settled_more}
use Rattle.gic_sweep.proofs.reaching.reach_between.Goals as goal

pub loop-node-preserved : goal.loop-node-preserved
loop-node-preserved c =
    let net = standing c.args.net.now in
    let i = c.loop-node.invariant in
    let n = c.loop-node.node in
    let next = c.greater_reach-most.ensures in
    record {
      settled = λ v x holds k h live. ⊎_elim
          (λ e. subst (λ (j : ℕ). IsSettledAt net v x c.greater_reach-most.result j) (sym e) (next.settled v x (holds n) (subst (IsLive net) e live)))
          (λ d. settled_more net v x k c.loop-node.most c.greater_reach-most.result next.grows (i.settled v x holds k (omega (arith, h, d)) live))
          (cases_eq k n);
      small = next.small;
      close = λ v x t holds h. next.close v x t (holds n) h (i.close v x t holds h);
    }

pub returns : goal.returns
returns c =
    let net = c.args.net.now in
    let i = c.loop-node.invariant in
    record {
      settled = λ v x holds k live. i.settled v x holds k (omega (arith, c.loop-node-test.false, c.loop-node.auto.node-end, c.nodes-node-end.ensures.value, live_within net.network.nodes (standing net) k (standing_within net.network (stands net) c.nodes-node-end.ensures.limits) live)) live;
      small = i.small;
      close = i.close;
    }
