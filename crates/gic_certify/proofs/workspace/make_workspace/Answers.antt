use Rattle.std.proofs.Common.{ap, subst, ◌∙◌}
use Rattle.gic_cert.specs.CertWorkspaceFor.{IsCertWorkspaceFor}
use Rattle.gic_model.specs.Network.{Network}
use Rattle.gic_net.specs.Net.{standing}
use Rattle.gic_stand.proofs.StandingOf.{stands_of_case}
use Rattle.gic_uniform.proofs.UniformFields.{same_volts}
use Rattle.gic_certify.proofs.workspace.make_workspace.Goals as goal

pub returns : goal.returns
returns c =
    let inputs = c.args.inputs.now in
    let field = inputs.question in
    let network = c.in_ok-net.ensures.network ∙ c.in_ok-elements.ensures in
    record {
      network = network;
      stands = stands_of_case inputs.case inputs.switchings _ (standing c.in_ok-net.net) c.in_ok-elements.ensures c.in_ok-net.ensures.standing;
      volts = same_volts inputs.case field.north field.east c.in_ok-volts.volts c.requires.north c.requires.east c.in_ok-volts.ensures;
      solving = c.in_ok-solving.ensures;
      certificate = subst (λ n. IsCertWorkspaceFor n c.in_ok-certificate.certificate) (c.nodes.ensures.value ∙ ap (λ (n : Network). n.nodes) network) c.in_ok-certificate.ensures;
    }
