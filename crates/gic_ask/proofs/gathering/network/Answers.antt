use Rattle.std.proofs.Common.{List, Option, Ok, Err, refl}
use Rattle.gic_inputs.specs.declared.inputs.Inputs.{Inputs}
use Rattle.gic_model.specs.declared.parts.Switching.{Switching}
use Rattle.gic_ask.specs.Contents.{Names, file_named, of_case}
use Rattle.gic_ask.specs.Outcome.{reading_case, reading_inputs}
use Rattle.gic_ask.specs.declared.fault.File.TheVariants as file
use Rattle.gic_ask.proofs.InTurn.{reads_by, file_fails, file_read, last_step, last_fails}
use Rattle.gic_ask.proofs.AllNamed.{up_to_case}
use Rattle.gic_ask.proofs.gathering.network.Goals as goal

pub returns-in_err-case-clause-reads : goal.returns-in_err-case-clause-reads
returns-in_err-case-clause-reads g c = λ cert.
    reads_by _ _ _ _ _ _ c.from_residual.result c.in_err-case.field-0.0 c.from_residual.ensures.1
    (file_fails _ (record (of_case c.args.name.now c.args.switch.now) { cert = cert }) file.Case c.args.name.now reading_case (file_named file.Switch c.args.switch.now)
    (reading_inputs c.args.switch.now c.args.question) _ _ c.in_err-case.field-0.0 refl c.in_err-case.ensures.gives)

pub returns-in_err-switchings-clause-reads : goal.returns-in_err-switchings-clause-reads
returns-in_err-switchings-clause-reads g c = λ cert.
    let names : Names = record (of_case c.args.name.now c.args.switch.now) { cert = cert } in
    let make : Option (List Switching) → Inputs _ = λ rows. record { case = c.in_ok-case.case; switchings = rows; question = c.args.question } in
    reads_by _ names _ _ _ _ c.from_residual-in_err-switchings.result c.in_err-switchings.field-0.0 c.from_residual-in_err-switchings.ensures.1
    (file_read _ names file.Case c.args.name.now reading_case (file_named file.Switch c.args.switch.now) (reading_inputs c.args.switch.now c.args.question)
    up_to_case _ _ _ _ c.in_ok-case.case (Err c.in_err-switchings.field-0.0) refl refl (λ one two. refl) c.in_ok-case.ensures.gives c.in_ok-case.ensures.content
    (last_fails _ names _ _ make _ _ c.in_err-switchings.field-0.0 (c.in_err-switchings.ensures.reads names)))

pub returns-clause-reads : goal.returns-clause-reads
returns-clause-reads g c = λ cert.
    let names : Names = record (of_case c.args.name.now c.args.switch.now) { cert = cert } in
    let make : Option (List Switching) → Inputs _ = λ rows. record { case = c.in_ok-case.case; switchings = rows; question = c.args.question } in
    file_read _ names file.Case c.args.name.now reading_case (file_named file.Switch c.args.switch.now) (reading_inputs c.args.switch.now c.args.question)
    up_to_case _ _ _ _ c.in_ok-case.case (Ok (make c.in_ok-switchings.switchings)) refl refl (λ one two. refl) c.in_ok-case.ensures.gives c.in_ok-case.ensures.content
    (last_step _ names _ _ make _ _ c.in_ok-switchings.switchings (c.in_ok-switchings.ensures.reads names))
