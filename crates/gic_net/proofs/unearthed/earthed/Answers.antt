use Rattle.std.proofs.Common.{◌≡◌, false, true, sym, ◌∙◌, arith, rules}
use Rattle.gic_net.specs.Net.{standing}
use Rattle.gic_net.proofs.SpreadLemmas.{all_reached}
use Rattle.gic_net.proofs.Steps.{live_node}
use Rattle.gic_net.proofs.unearthed.earthed.Goals as goal

no_way : false ≡ true → ⊥
no_way e = cc

pub returns-then-not-has-clause-unearthed : goal.returns-then-not-has-clause-unearthed
returns-then-not-has-clause-unearthed c = record {
  live = search rules;
  unearthed = λ earthed.
      let reached = all_reached (standing c.args.net.now) c.spread.new.scratch.reached c.spread.ensures.spread c.loop-node.node earthed.over earthed.chain in
      no_way (sym c.if-not-has.true ∙ c.has.ensures ∙ reached);
  first = c.loop-node.invariant;
}

pub returns-clause-ok : goal.returns-clause-ok
returns-clause-ok c = λ k live.
    let inside = live_node c.args.net.now k c.nodes-node-end.ensures.limits live in
    c.loop-node.invariant k (omega (arith, c.nodes-node-end.ensures.value, c.loop-node-test.false)) live
