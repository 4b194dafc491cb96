use Rattle.std.proofs.Common.{◌≡◌, rules, List, Ok, IfErr, length, sym, ap, subst, ◌∙◌}
use Rattle.gic_cert.specs.Reading.{certificate_nodes, cert_of}
use Rattle.gic_model.specs.Network.{Network}
use Rattle.gic_model.specs.Sums.{Placed}
use Rattle.gic_net.specs.Net.{standing}
use Rattle.gic_stand.proofs.StandingOf.{stands_of_case}
use Rattle.gic_recheck.specs.Told.{IsFaultOf}
use Rattle.gic_recheck.proofs.workspace.make_workspace.Goals as goal

pub returns-clause-made : goal.returns-clause-made
returns-clause-made c =
    let inputs = c.args.inputs.now in
    let network = c.in_ok-net.ensures.network ∙ c.in_ok-elements.ensures in
    record {
      network = network;
      stands = stands_of_case inputs.case inputs.switchings _ (standing c.in_ok-net.net) c.in_ok-elements.ensures c.in_ok-net.ensures.standing;
      nodes = c.in_ok-cert.ensures.nodes;
      count = c.in_ok-volts.ensures.count ∙ sym (ap (λ (n : Network). length n.list) network);
      volts = c.in_ok-volts.ensures.own;
      intervals = c.in_ok-intervals.ensures;
    }

pub returns-clause-read : goal.returns-clause-read
returns-clause-read c =
    let inputs = c.args.inputs.now in
    subst (λ (s : List Placed). cert_of (certificate_nodes inputs.case s) c.args.bytes.now ≡ Ok c.in_ok-cert.cert)
    (stands_of_case inputs.case inputs.switchings _ (standing c.in_ok-net.net) c.in_ok-elements.ensures c.in_ok-net.ensures.standing)
    c.in_ok-cert.ensures.read

pub returns-in_err-cert-clause-refused : goal.returns-in_err-cert-clause-refused
returns-in_err-cert-clause-refused c =
    let inputs = c.args.inputs.now in
    subst (λ (s : List Placed). IfErr c.from_residual-in_err-cert.result (IsFaultOf inputs.case s c.args.bytes.now))
    (stands_of_case inputs.case inputs.switchings _ (standing c.in_ok-net.net) c.in_ok-elements.ensures c.in_ok-net.ensures.standing)
    (search (rules, c.in_err-cert.ensures.refused, c.from_residual-in_err-cert.ensures))
