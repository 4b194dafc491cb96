use Rattle.std.proofs.Common.{ℕ, ℤ, List, [], ◌∷◌, ap, sym, subst}
use Rattle.gic_cert.specs.CertWorkspaceFor.{IsCertWorkspaceFor}
use Rattle.gic_model.specs.Network.{Network}
use Rattle.gic_model.specs.Sums.{Placed}
use Rattle.gic_net.specs.Net.{standing}
use Rattle.gic_stand.specs.Needs.{Solved}
use Rattle.gic_stand.specs.Serves.{Serves, shown}
use Rattle.gic_uniform.proofs.InField.{in_field}
use Rattle.gic_certify.specs.RightCertify.{ShowsPassing}
use Rattle.gic_certify.proofs.mode.certify.Goals as goal

pub certify_net-requires-clause-places : goal.certify_net-requires-clause-places
certify_net-requires-clause-places g c =
    subst (λ n. IsCertWorkspaceFor n c.args.workspace.certificate) (sym (ap (λ (n : Network). n.nodes) c.requires.workspace.network)) c.requires.workspace.certificate

pub returns : goal.returns
returns g c =
    let inputs = c.args.inputs.now in
    let case = inputs.case in
    let field = inputs.question in
    let workspace = c.args.workspace in
    in_field case inputs.switchings field.north field.east (standing workspace.net) workspace.volts
    (λ (s : List Placed) (v : ℕ → ℤ). Serves Solved case (s ∷ []) (ShowsPassing case s v field.north field.east)
    (shown g.S.Sink.written g.S.Sink.faults c.args.out.now) (shown g.S.Sink.written g.S.Sink.faults c.certify_net.new.out) c.certify_net.result)
    c.requires.workspace.stands c.requires.workspace.volts c.certify_net.ensures
