use Rattle.std.proofs.Common.{ap, ◌∙◌}
use Rattle.gic_net.specs.Scratch.{ScratchView}
use Rattle.gic_model.specs.Network.{Network}
use Rattle.gic_net.specs.Net.{standing}
use Rattle.gic_stand.proofs.StandingOf.{stands_of_case}
use Rattle.gic_check.proofs.workspace.make_workspace.Goals as goal

pub returns : goal.returns
returns c =
    let inputs = c.args.inputs.now in
    let network = c.in_ok-net.ensures.network ∙ c.in_ok-elements.ensures in
    let nodes = ap (λ (n : Network). n.nodes) network in
    record {
      network = network;
      stands = stands_of_case inputs.case inputs.switchings _ (standing c.in_ok-net.net) c.in_ok-elements.ensures c.in_ok-net.ensures.standing;
      scratch = ap (λ (s : ScratchView). s.nodes) c.in_ok-scratch.ensures ∙ c.nodes.ensures.value ∙ nodes;
      live = c.in_ok-live.ensures ∙ c.nodes-2.ensures.value ∙ nodes;
    }
