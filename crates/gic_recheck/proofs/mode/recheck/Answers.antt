use Rattle.std.proofs.Common.{◌≡◌, List, Ok, sym, subst}
use Rattle.gic_model.specs.Sums.{Placed}
use Rattle.gic_stand.specs.Serves.{shown}
use Rattle.gic_cert.specs.Reading.{certificate_nodes, cert_of}
use Rattle.gic_recheck.specs.RightRecheck.{ServesCertificate}
use Rattle.gic_recheck.proofs.mode.recheck.Goals as goal

pub returns : goal.returns
returns g c = λ bytes read.
    let case = c.args.inputs.now.case in
    let workspace = c.args.workspace.now in
    let before = shown g.S.Sink.written g.S.Sink.faults c.args.out.now in
    let now = shown g.S.Sink.written g.S.Sink.faults c.show.new.out in
    subst (λ (s : List Placed). ServesCertificate case s bytes before now c.show.result) c.requires.stands
    (c.show.ensures bytes (subst (λ (s : List Placed). cert_of (certificate_nodes case s) bytes ≡ Ok workspace.cert) (sym c.requires.stands) read))
