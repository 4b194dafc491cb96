use Rattle.std.proofs.Common.{◌≡◌, map, ap, ◌∙◌}
use Rattle.std.specs.HashMap.{get}
use Rattle.gic_case.specs.Names.{same, place_in}
use Rattle.gic_case_reader.specs.Rules.{bus_place, zone_place}
use Rattle.gic_case_reader.proofs.reference.resolved_lines.Goals as goal

pub returns-clause-value : goal.returns-clause-value
returns-clause-value c =
    let buses : get same c.in_ok-buses.buses ≡ bus_place c.args.rows.now =
    c.in_ok-buses.ensures ∙ ap (λ xs. place_in (map (λ b. b.name) xs)) c.as_slice.ensures.value ∙ ap bus_place c.rows.view_is in
    let zones : get same c.in_ok-zones.zones ≡ zone_place c.args.rows.now =
    c.in_ok-zones.ensures ∙ ap (λ xs. place_in (map (λ z. z.name) xs)) c.as_slice-2.ensures.value ∙ ap zone_place c.rows.view_is in
    let rows : c.as_slice-3.result.now ≡ c.args.rows.now.lines = c.as_slice-3.ensures.value ∙ ap (λ w. w.lines) c.rows.view_is in
    rw (← buses, ← zones, ← rows) c.lines_in.ensures.value
