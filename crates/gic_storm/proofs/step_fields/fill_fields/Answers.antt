use Rattle.std.proofs.Common.{arith}
use Rattle.std.proofs.lemmas.List.FromFn.{fill_by_all}
use Rattle.gic_induce.specs.Fields.{no_field}
use Rattle.gic_storm.specs.StepFields.{field_at_step}
use Rattle.gic_storm.proofs.LastRows.{fields_within}
use Rattle.gic_storm.proofs.step_fields.fill_fields.Goals as goal

pub field_at_step-north-requires : goal.field_at_step-north-requires
field_at_step-north-requires c = fields_within c.args.storm.now.zones c.step-rows.result.now c.step-rows.ensures.sound

pub returns : goal.returns
returns c =
    let l = c.loop-zone in
    let rows = c.step-rows.ensures.value in
    rw (← rows) (fill_by_all (field_at_step c.step-rows.result.now) l.out c.args.storm.now.zones no_field l.invariant.count (λ k h. l.invariant.filled k (omega (arith, h, l.auto.zone-end))))
