use Rattle.std.proofs.Common.{Some, Ok, Err, refl}
use Rattle.gic_ask.specs.Contents.{Names, of_case}
use Rattle.gic_ask.specs.Outcome.{reading_case, asking_study, study_given}
use Rattle.gic_ask.specs.declared.fault.File.TheVariants as file
use Rattle.gic_ask.proofs.InTurn.{reads_by, file_fails, file_read, last_step, last_fails}
use Rattle.gic_ask.proofs.AllNamed.{up_to_case}
use Rattle.gic_ask.proofs.gathering.study.Goals as goal

pub returns-in_err-case-clause-reads : goal.returns-in_err-case-clause-reads
returns-in_err-case-clause-reads g c =
    reads_by _ _ _ _ _ _ c.from_residual.result c.in_err-case.field-0.0 c.from_residual.ensures.1
    (file_fails _ (record (of_case c.args.request.now.case c.args.request.now.switch) { storm = Some c.args.request.now.storm }) file.Case c.args.request.now.case reading_case _
    (asking_study c.args.request.now) _ _ c.in_err-case.field-0.0 refl c.in_err-case.ensures.gives)

pub returns-in_err-inputs-clause-reads : goal.returns-in_err-inputs-clause-reads
returns-in_err-inputs-clause-reads g c =
    let names : Names = record (of_case c.args.request.now.case c.args.request.now.switch) { storm = Some c.args.request.now.storm } in
    reads_by _ names _ _ _ _ c.from_residual-in_err-inputs.result c.in_err-inputs.field-0.0 c.from_residual-in_err-inputs.ensures.1
    (file_read _ names file.Case c.args.request.now.case reading_case _ (asking_study c.args.request.now)
    up_to_case _ _ _ _ c.in_ok-case.case (Err c.in_err-inputs.field-0.0) refl refl (λ one two. refl) c.in_ok-case.ensures.gives c.in_ok-case.ensures.content
    (last_fails _ names _ _ (study_given c.args.request.now) _ _ c.in_err-inputs.field-0.0
    (c.in_err-inputs.ensures.reads c.args.request.now.case)))

pub returns-clause-reads : goal.returns-clause-reads
returns-clause-reads g c =
    let names : Names = record (of_case c.args.request.now.case c.args.request.now.switch) { storm = Some c.args.request.now.storm } in
    file_read _ names file.Case c.args.request.now.case reading_case _ (asking_study c.args.request.now)
    up_to_case _ _ _ _ c.in_ok-case.case (Ok (study_given c.args.request.now c.in_ok-inputs.inputs)) refl refl (λ one two. refl) c.in_ok-case.ensures.gives c.in_ok-case.ensures.content
    (last_step _ names _ _ (study_given c.args.request.now) _ _ c.in_ok-inputs.inputs
    (c.in_ok-inputs.ensures.reads c.args.request.now.case))
