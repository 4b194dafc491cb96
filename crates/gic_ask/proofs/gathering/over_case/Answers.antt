use Rattle.std.proofs.Common.{List, Option, Some, Ok, Err, refl}
use Rattle.gic_inputs.specs.declared.inputs.StormInputs.{StormInputs}
use Rattle.gic_model.specs.declared.parts.Switching.{Switching}
use Rattle.gic_ask.specs.Contents.{Names, file_named, of_case}
use Rattle.gic_ask.specs.Outcome.{reading_storm, reading_after_storm}
use Rattle.gic_ask.specs.declared.fault.File.TheVariants as file
use Rattle.gic_ask.proofs.InTurn.{reads_by, file_fails, file_read, last_step, last_fails}
use Rattle.gic_ask.proofs.AllNamed.{up_to_storm}
use Rattle.gic_ask.proofs.gathering.over_case.Goals as goal

pub returns-in_err-storm-clause-reads : goal.returns-in_err-storm-clause-reads
returns-in_err-storm-clause-reads g c = λ case_name.
    reads_by _ _ _ _ _ _ c.from_residual.result c.in_err-storm.field-0.0 c.from_residual.ensures.1
    (file_fails _ (record (of_case case_name c.args.switch.now) { storm = Some c.args.name.now }) file.Storm c.args.name.now (reading_storm c.args.case) (file_named file.Switch c.args.switch.now)
    (reading_after_storm c.args.switch.now c.args.question c.args.case) _ _ c.in_err-storm.field-0.0 refl c.in_err-storm.ensures.gives)

pub returns-in_err-switchings-clause-reads : goal.returns-in_err-switchings-clause-reads
returns-in_err-switchings-clause-reads g c = λ case_name.
    let names : Names = record (of_case case_name c.args.switch.now) { storm = Some c.args.name.now } in
    let make : Option (List Switching) → StormInputs = λ rows. record { case = c.args.case; switchings = rows; storm = c.in_ok-storm.storm; question = c.args.question } in
    reads_by _ names _ _ _ _ c.from_residual-in_err-switchings.result c.in_err-switchings.field-0.0 c.from_residual-in_err-switchings.ensures.1
    (file_read _ names file.Storm c.args.name.now (reading_storm c.args.case) (file_named file.Switch c.args.switch.now) (reading_after_storm c.args.switch.now c.args.question c.args.case)
    up_to_storm _ _ _ _ c.in_ok-storm.storm (Err c.in_err-switchings.field-0.0) refl refl (λ one two. refl) c.in_ok-storm.ensures.gives c.in_ok-storm.ensures.content
    (last_fails _ names _ _ make _ _ c.in_err-switchings.field-0.0 (c.in_err-switchings.ensures.reads names)))

pub returns-clause-reads : goal.returns-clause-reads
returns-clause-reads g c = λ case_name.
    let names : Names = record (of_case case_name c.args.switch.now) { storm = Some c.args.name.now } in
    let make : Option (List Switching) → StormInputs = λ rows. record { case = c.args.case; switchings = rows; storm = c.in_ok-storm.storm; question = c.args.question } in
    file_read _ names file.Storm c.args.name.now (reading_storm c.args.case) (file_named file.Switch c.args.switch.now) (reading_after_storm c.args.switch.now c.args.question c.args.case)
    up_to_storm _ _ _ _ c.in_ok-storm.storm (Ok (make c.in_ok-switchings.switchings)) refl refl (λ one two. refl) c.in_ok-storm.ensures.gives c.in_ok-storm.ensures.content
    (last_step _ names _ _ make _ _ c.in_ok-switchings.switchings (c.in_ok-switchings.ensures.reads names))
