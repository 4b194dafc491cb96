use Rattle.std.proofs.Common.{rules, refl}
use Rattle.gic_storm.specs.Rules.{storm_of}
use Rattle.gic_storm.specs.StormView.{zone_names}
use Rattle.gic_ask.specs.declared.fault.File.TheVariants as file
use Rattle.gic_ask.specs.declared.fault.InputRefusal.TheVariants.{Storm}
use Rattle.gic_ask.proofs.InTurn.{gives_by, gives_fault, gives_read, gives_refused, gives_memory}
use Rattle.gic_ask.proofs.reading.storm.Goals as goal

pub returns-in_err-bytes-clause-gives : goal.returns-in_err-bytes-clause-gives
returns-in_err-bytes-clause-gives g c =
    gives_by _ _ _ _ _ _ c.from_residual.result c.in_err-bytes.field-0.0 c.from_residual.ensures.1
    (gives_fault _ _ file.Storm Storm (storm_of (zone_names c.args.case.now.zones)) _ _ c.in_err-bytes.field-0.0 c.in_err-bytes.ensures.gives)

pub returns-in-Ok-clause-gives : goal.returns-in-Ok-clause-gives
returns-in-Ok-clause-gives g c =
    gives_read _ _ file.Storm Storm (storm_of (zone_names c.args.case.now.zones)) _ _ c.in_ok-bytes.bytes c.as_slice.result.now c.as_slice.ensures c.in_ok-bytes.ensures.gives c.in-Ok.storm c.in-Ok.ensures.value

pub returns-in-Err-Memory-clause-gives : goal.returns-in-Err-Memory-clause-gives
returns-in-Err-Memory-clause-gives g c =
    gives_memory _ _ file.Storm Storm (storm_of (zone_names c.args.case.now.zones)) _ _ c.in_ok-bytes.bytes c.as_slice.result.now c.as_slice.ensures c.in_ok-bytes.ensures.gives

pub returns-clause-gives : goal.returns-clause-gives
returns-clause-gives g c =
    gives_refused _ _ file.Storm Storm (storm_of (zone_names c.args.case.now.zones)) _ _ c.in_ok-bytes.bytes c.as_slice.result.now c.as_slice.ensures c.in_ok-bytes.ensures.gives c.in-Err-Refused.refusal refl (c.in-Err-Refused.ensures.value c.in-Err-Refused.refusal (search rules))
