use Rattle.std.proofs.Common.{Some, Ok, Err, refl}
use Rattle.gic_files.specs.Files.{fetches}
use Rattle.gic_ask.specs.Contents.{Names, file_named, of_case}
use Rattle.gic_ask.specs.Outcome.{reading_certificate, reading_network, asking_recheck, recheck_given}
use Rattle.gic_ask.specs.declared.fault.File.TheVariants as file
use Rattle.gic_ask.proofs.InTurn.{reads_by, among, first_fails, then_reads, last_step, last_fails}
use Rattle.gic_ask.proofs.AllNamed.{up_to_certificate}
use Rattle.gic_ask.proofs.gathering.recheck.Goals as goal

pub returns-in_err-inputs-clause-reads : goal.returns-in_err-inputs-clause-reads
returns-in_err-inputs-clause-reads g c =
    let names : Names = record (of_case c.args.request.now.case c.args.request.now.switch) { cert = Some c.args.request.now.cert } in
    reads_by _ names _ _ _ _ c.from_residual.result c.in_err-inputs.field-0.0 c.from_residual.ensures.1
    (first_fails _ names _ (file_named file.Certificate (Some c.args.request.now.cert)) (reading_network c.args.request.now.switch (tt {0})) asking_recheck _ (fetches g.L.Library.fetched g.L.Library.failures c.args.library.now) _ c.in_err-inputs.field-0.0
    (c.in_err-inputs.ensures.reads (Some c.args.request.now.cert)))

pub returns-in_err-certificate-clause-reads : goal.returns-in_err-certificate-clause-reads
returns-in_err-certificate-clause-reads g c =
    let names : Names = record (of_case c.args.request.now.case c.args.request.now.switch) { cert = Some c.args.request.now.cert } in
    reads_by _ names _ _ _ _ c.from_residual-in_err-certificate.result c.in_err-certificate.field-0.0 c.from_residual-in_err-certificate.ensures.1
    (then_reads _ names _ (file_named file.Certificate (Some c.args.request.now.cert)) (reading_network c.args.request.now.switch (tt {0})) asking_recheck _ _ _ _
    up_to_certificate c.in_ok-inputs.inputs (Err c.in_err-certificate.field-0.0) (λ one two. refl) (λ one two. refl)
    (c.in_ok-inputs.ensures.reads (Some c.args.request.now.cert))
    c.in_ok-inputs.ensures.content
    (last_fails _ names _ (λ contents. reading_certificate (contents file.Certificate)) (recheck_given c.in_ok-inputs.inputs) _ _ c.in_err-certificate.field-0.0
    (among _ names c.args.request.now.cert file.Certificate reading_certificate _ _ _ refl c.in_err-certificate.ensures.gives)))

pub returns-clause-reads : goal.returns-clause-reads
returns-clause-reads g c =
    let names : Names = record (of_case c.args.request.now.case c.args.request.now.switch) { cert = Some c.args.request.now.cert } in
    then_reads _ names _ (file_named file.Certificate (Some c.args.request.now.cert)) (reading_network c.args.request.now.switch (tt {0})) asking_recheck _ _ _ _
    up_to_certificate c.in_ok-inputs.inputs (Ok (recheck_given c.in_ok-inputs.inputs c.in_ok-certificate.certificate)) (λ one two. refl) (λ one two. refl)
    (c.in_ok-inputs.ensures.reads (Some c.args.request.now.cert))
    c.in_ok-inputs.ensures.content
    (last_step _ names _ (λ contents. reading_certificate (contents file.Certificate)) (recheck_given c.in_ok-inputs.inputs) _ _ c.in_ok-certificate.certificate
    (among _ names c.args.request.now.cert file.Certificate reading_certificate _ _ _ refl c.in_ok-certificate.ensures.gives))
