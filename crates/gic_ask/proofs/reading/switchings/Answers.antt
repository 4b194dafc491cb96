use Rattle.std.proofs.Common.{rules, refl}
use Rattle.gic_switch.specs.Rules.{switchings_of}
use Rattle.gic_ask.specs.declared.fault.File.TheVariants as file
use Rattle.gic_ask.specs.declared.fault.InputFault.TheVariants.{Refused, Memory}
use Rattle.gic_ask.specs.declared.fault.InputRefusal.TheVariants.{Switch}
use Rattle.std.specs.Prelude.{Ok, Err}
use Rattle.gic_ask.specs.Contents.{file_named}
use Rattle.gic_ask.proofs.InTurn.{unnamed, where_file, reads_by, gives_fault, gives_read, gives_refused, gives_memory}
use Rattle.gic_ask.proofs.reading.switchings.Goals as goal

pub returns-in_err-bytes-clause-reads : goal.returns-in_err-bytes-clause-reads
returns-in_err-bytes-clause-reads g c = λ others.
    reads_by _ (record others { switch = c.args.switch.now }) _ _ _ _ c.from_residual.result c.in_err-bytes.field-0.0 c.from_residual.ensures.1
    (where_file _ (record others { switch = c.args.switch.now }) _ file.Switch _ _ _ (Err c.in_err-bytes.field-0.0) (search (rules, c.in-Some.is))
    (gives_fault _ _ file.Switch Switch (switchings_of c.args.case.now) _ _ c.in_err-bytes.field-0.0 c.in_err-bytes.ensures.gives))

pub returns-in-Ok-clause-reads : goal.returns-in-Ok-clause-reads
returns-in-Ok-clause-reads g c = λ others.
    where_file _ (record others { switch = c.args.switch.now }) _ file.Switch _ _ _ (Ok c.in-Ok.switchings) (search (rules, c.in-Some.is))
    (gives_read _ _ file.Switch Switch (switchings_of c.args.case.now) _ _ c.in_ok-bytes.bytes c.as_slice.result.now c.as_slice.ensures c.in_ok-bytes.ensures.gives c.in-Ok.switchings c.in-Ok.ensures.value)

pub returns-in-Err-Memory-clause-reads : goal.returns-in-Err-Memory-clause-reads
returns-in-Err-Memory-clause-reads g c = λ others.
    where_file _ (record others { switch = c.args.switch.now }) _ file.Switch _ _ _ (Err Memory) (search (rules, c.in-Some.is))
    (gives_memory _ _ file.Switch Switch (switchings_of c.args.case.now) _ _ c.in_ok-bytes.bytes c.as_slice.result.now c.as_slice.ensures c.in_ok-bytes.ensures.gives)

pub returns-clause-reads : goal.returns-clause-reads
returns-clause-reads g c = λ others.
    where_file _ (record others { switch = c.args.switch.now }) _ file.Switch _ _ _ (Err (Refused (Switch c.in-Err-Refused.refusal))) (search (rules, c.in-Some.is))
    (gives_refused _ _ file.Switch Switch (switchings_of c.args.case.now) _ _ c.in_ok-bytes.bytes c.as_slice.result.now c.as_slice.ensures c.in_ok-bytes.ensures.gives c.in-Err-Refused.refusal refl (c.in-Err-Refused.ensures.value c.in-Err-Refused.refusal (search rules)))

pub returns-in_default-clause-reads : goal.returns-in_default-clause-reads
returns-in_default-clause-reads g c = λ others. unnamed _ (record others { switch = c.args.switch.now }) (file_named file.Switch) c.args.switch.now _ _ refl (search rules)
