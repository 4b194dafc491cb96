use Rattle.std.proofs.Common.{◌∙◌}
use Rattle.gic_net.specs.Net.{standing}
use Rattle.gic_stand.proofs.StandingOf.{stands_of_case}
use Rattle.gic_uniform.proofs.UniformFields.{same_volts}
use Rattle.gic_field.proofs.workspace.make_workspace.Goals as goal

pub returns : goal.returns
returns c =
    let inputs = c.args.inputs.now in
    let question = inputs.question in
    record {
      network = c.in_ok-net.ensures.network ∙ c.in_ok-elements.ensures;
      stands = stands_of_case inputs.case inputs.switchings _ (standing c.in_ok-net.net) c.in_ok-elements.ensures c.in_ok-net.ensures.standing;
      volts = same_volts inputs.case question.field.north question.field.east c.in_ok-volts.volts c.requires.field.north c.requires.field.east c.in_ok-volts.ensures;
      view = c.in_ok-view.ensures.lengths;
      solving = c.in_ok-solving.ensures;
    }
