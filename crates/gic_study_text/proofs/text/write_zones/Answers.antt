use Rattle.std.proofs.Common.{rules, ◌≡◌, ◌<◌, length}
use Rattle.gic_report.proofs.Written.{goes_on, stops}
use Rattle.gic_study_text.proofs.Left.{next_zone}
use Rattle.gic_study_text.proofs.text.write_zones.Goals as goal

pub loop-place-preserved : goal.loop-place-preserved
loop-place-preserved g c =
    let less : c.loop-place.place < length c.args.zones.now = search rules in
    let named : c.zone.inside.name ≡ c.index-zones-place.result.name = search (rules, c.zone.view_is) in
    let next = next_zone c.args.zones.now c.args.fields.now c.loop-place.place c.index-zones-place.result c.zone.inside.name less c.requires named c.index-zones-place.is in
    record { written = goes_on c.loop-place.invariant.written next c.in_ok-write_zone.ensures }

pub returns-in_err-write_zone : goal.returns-in_err-write_zone
returns-in_err-write_zone g c =
    let less : c.loop-place.place < length c.args.zones.now = search rules in
    let named : c.zone.inside.name ≡ c.index-zones-place.result.name = search (rules, c.zone.view_is) in
    let next = next_zone c.args.zones.now c.args.fields.now c.loop-place.place c.index-zones-place.result c.zone.inside.name less c.requires named c.index-zones-place.is in
    stops _ c.loop-place.invariant.written next c.in_err-write_zone.ensures c.from_residual.ensures.1
