use Rattle.std.proofs.Common.{◌≡◌, false, true, ap, sym, ◌∙◌, inl, inr, arith}
use Rattle.gic_net.specs.Net.{standing}
use Rattle.gic_net.specs.Scratch.{ScratchView}
use Rattle.gic_net.proofs.Joined.{earthed_itself}
use Rattle.gic_net.proofs.Steps.{FromEarth, earthed_step, from_earth_step, live_node}
use Rattle.gic_net.proofs.spread.reach_from_earth.Goals as goal
use Rattle.gic_net.proofs.spread.reach_from_earth.Goals.{then-leads_to_earth, else-leads_to_earth}

no_way : false ≡ true → ⊥
no_way e = cc

pub loop-node-preserved : goal.loop-node-preserved
loop-node-preserved c =
    let all = standing c.args.net.now in
    let old = c.loop-node.scratch in
    let new = c.if-leads_to_earth.scratch in
    let step : FromEarth all c.loop-node.node old.reached new.reached = elim c.if-leads_to_earth.branch [
      | then-leads_to_earth w ↦ inl (ap (λ (s : ScratchView). s.reached) (w.scratch-is ∙ w.reach.ensures), c.leads_to_earth.ensures.0 w.if-leads_to_earth.true)
      | else-leads_to_earth w ↦ inr (ap (λ (s : ScratchView). s.reached) w.scratch-is, λ leads. no_way (sym w.if-leads_to_earth.false ∙ c.leads_to_earth.ensures.1 leads))
    ] in
    let nodes : new.nodes ≡ old.nodes = elim c.if-leads_to_earth.branch [
      | then-leads_to_earth w ↦ ap (λ (s : ScratchView). s.nodes) (w.scratch-is ∙ w.reach.ensures)
      | else-leads_to_earth w ↦ ap (λ (s : ScratchView). s.nodes) w.scratch-is
    ] in
    record {
      nodes = nodes ∙ c.loop-node.invariant.nodes;
      earthed = earthed_step all c.loop-node.node old.reached new.reached step c.loop-node.invariant.earthed;
      from_earth = from_earth_step all c.loop-node.node old.reached new.reached step c.loop-node.invariant.from_earth;
    }

pub returns-clause-starts : goal.returns-clause-starts
returns-clause-starts c = record {
  earthed = c.loop-node.invariant.earthed;
  from_earth = λ k leads.
      let inside = live_node c.args.net.now k c.nodes-node-end.ensures.limits (earthed_itself (standing c.args.net.now) k leads).live in
      c.loop-node.invariant.from_earth k (omega arith) leads;
}
