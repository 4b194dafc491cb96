use Rattle.std.proofs.Common.{rules, sym}
use Rattle.gic_storm.proofs.LastRows.{last_within}
use Rattle.gic_storm.proofs.step_fields.field_at_step.Goals as goal

pub returns-in-Some-clause-within : goal.returns-in-Some-clause-within
returns-in-Some-clause-within c =
    let within = last_within c.args.rows.now c.args.zone c.in-Some.row c.requires (sym c.in-Some.ensures) in
    let north = within.0 in
    let east = within.1 in
    search (rules, north, east)
