use Rattle.std.proofs.Common.{map, ap, ◌∙◌}
use Rattle.std.specs.Option.{is_some}
use Rattle.gic_cert.specs.Written.{Certificate}
use Rattle.gic_cert.specs.Cuts.{lines_cut}
use Rattle.gic_cert.specs.Reading.{certificate_refusals, cert_in, cert_of}
use Rattle.gic_cert.specs.Rows.{named_nodes}
use Rattle.gic_cert.proofs.ReadLaws.{read_live, lives_named, read_refused}
use Rattle.gic_cert.proofs.reader.read_named.Goals as goal

pub returns-in_err-read-clause-answer : goal.returns-in_err-read-clause-answer
unfolding cert_of
returns-in_err-read-clause-answer c =
    let nodes = named_nodes c.args.nodes.now in
    let lines = lines_cut c.args.bytes.now in
    read_refused (certificate_refusals nodes lines) (cert_in nodes lines) c.in_err-read.field-0.0 c.from_residual.result c.in_err-read.ensures.first c.from_residual.ensures.1

pub returns-clause-live : goal.returns-clause-live
returns-clause-live c =
    ap (λ (d : Certificate). map is_some d.nodes) (c.in-Ok.ensures ∙ c.in_ok-read.ensures.value) ∙
    read_live (named_nodes c.args.nodes.now) (lines_cut c.args.bytes.now) c.in_ok-read.ensures.kept ∙ lives_named c.args.nodes.now
