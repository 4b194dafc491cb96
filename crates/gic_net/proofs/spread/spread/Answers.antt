use Rattle.std.proofs.Common.{◌<◌, length, subst, sym, ◌∙◌, arith}
use Rattle.gic_net.specs.Net.{standing}
use Rattle.gic_net.specs.Scratch.{IsReached}
use Rattle.gic_net.proofs.Members.{reached_at}
use Rattle.gic_net.proofs.SpreadLemmas.{longer, starts_more, closed_more, spread_of}
use Rattle.gic_net.proofs.spread.spread.Goals as goal

pub loop-done-preserved : goal.loop-done-preserved
loop-done-preserved c =
    let all = standing c.args.net.now in
    let old = c.loop-done.scratch.reached in
    let new = c.reach_joined.new.scratch.reached in
    let node = c.reached_at-node.result in
    let gains = c.reach_joined.ensures.gains in
    let below = c.loop-done-test.true in
    let count = c.count.ensures.value in
    let inside : c.loop-done.done < length old = omega arith in
    let reached : IsReached old node = subst (IsReached old) (sym c.reached_at-node.ensures.value) (reached_at old c.loop-done.done inside) in
    let more = longer all old new node gains in
    record {
      nodes = c.reach_joined.ensures.nodes ∙ c.loop-done.invariant.nodes;
      starts = starts_more all old new node gains c.loop-done.invariant.starts reached;
      behind = omega arith;
      closed = closed_more all old new node gains c.loop-done.done inside c.reached_at-node.ensures.value c.loop-done.invariant.closed;
    }

pub returns-clause-spread : goal.returns-clause-spread
returns-clause-spread c =
    let test = c.loop-done-test.false in
    let count = c.count.ensures.value in
    spread_of (standing c.args.net.now) c.loop-done.scratch.reached c.loop-done.done c.loop-done.invariant.starts (omega arith) c.loop-done.invariant.closed
