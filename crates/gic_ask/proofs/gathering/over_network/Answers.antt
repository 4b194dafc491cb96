use Rattle.std.proofs.Common.{Ok, Err, refl}
use Rattle.gic_ask.specs.Contents.{Names, file_named, of_case}
use Rattle.gic_ask.specs.Outcome.{reading_case, asking_network, network_given}
use Rattle.gic_ask.specs.declared.fault.File.TheVariants as file
use Rattle.gic_ask.proofs.InTurn.{reads_by, file_fails, file_read, last_step, last_fails}
use Rattle.gic_ask.proofs.AllNamed.{up_to_case}
use Rattle.gic_ask.proofs.gathering.over_network.Goals as goal

pub returns-in_err-case-clause-reads : goal.returns-in_err-case-clause-reads
returns-in_err-case-clause-reads g c =
    let r = c.args.request.now in
    reads_by _ _ _ _ _ _ c.from_residual.result c.in_err-case.field-0.0 c.from_residual.ensures.1
    (file_fails _ (of_case r.case r.switch) file.Case r.case reading_case (file_named file.Switch r.switch)
    (asking_network c.args.mode r) _ _ c.in_err-case.field-0.0 refl c.in_err-case.ensures.gives)

pub returns-in_err-switchings-clause-reads : goal.returns-in_err-switchings-clause-reads
returns-in_err-switchings-clause-reads g c =
    let r = c.args.request.now in
    let names : Names = of_case r.case r.switch in
    reads_by _ names _ _ _ _ c.from_residual-in_err-switchings.result c.in_err-switchings.field-0.0 c.from_residual-in_err-switchings.ensures.1
    (file_read _ names file.Case r.case reading_case (file_named file.Switch r.switch) (asking_network c.args.mode r)
    up_to_case _ _ _ _ c.in_ok-case.case (Err c.in_err-switchings.field-0.0) refl refl (λ one two. refl) c.in_ok-case.ensures.gives c.in_ok-case.ensures.content
    (last_fails _ names _ _ (network_given c.args.mode r c.in_ok-case.case) _ _ c.in_err-switchings.field-0.0 (c.in_err-switchings.ensures.reads names)))

pub returns-clause-reads : goal.returns-clause-reads
returns-clause-reads g c =
    let r = c.args.request.now in
    let names : Names = of_case r.case r.switch in
    file_read _ names file.Case r.case reading_case (file_named file.Switch r.switch) (asking_network c.args.mode r)
    up_to_case _ _ _ _ c.in_ok-case.case (Ok (network_given c.args.mode r c.in_ok-case.case c.in_ok-switchings.switchings)) refl refl (λ one two. refl) c.in_ok-case.ensures.gives c.in_ok-case.ensures.content
    (last_step _ names _ _ (network_given c.args.mode r c.in_ok-case.case) _ _ c.in_ok-switchings.switchings (c.in_ok-switchings.ensures.reads names))
