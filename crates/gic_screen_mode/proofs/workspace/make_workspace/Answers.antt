use Rattle.std.proofs.Common.{◌∙◌}
use Rattle.gic_net.specs.Net.{standing}
use Rattle.gic_stand.proofs.StandingOf.{stands_of_case}
use Rattle.gic_screen_mode.proofs.workspace.make_workspace.Goals as goal

pub returns : goal.returns
returns c =
    let inputs = c.args.inputs.now in
    record {
      network = c.in_ok-net.ensures.network ∙ c.in_ok-elements.ensures;
      stands = stands_of_case inputs.case inputs.switchings _ (standing c.in_ok-net.net) c.in_ok-elements.ensures c.in_ok-net.ensures.standing;
      volts = c.in_ok-volts.ensures;
      screening = c.in_ok-screening.ensures;
    }
