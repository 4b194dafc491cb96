use Rattle.std.proofs.Common.{◌≡◌, map, ap, ◌∙◌}
use Rattle.std.specs.HashMap.{get}
use Rattle.gic_case.specs.Names.{same, place_in}
use Rattle.gic_case_reader.specs.Rules.{substation_place}
use Rattle.gic_case_reader.proofs.reference.resolved_buses.Goals as goal

pub returns-clause-value : goal.returns-clause-value
returns-clause-value c =
    let found : get same c.in_ok-substations.substations ≡ substation_place c.args.rows.now =
    c.in_ok-substations.ensures ∙ ap (λ xs. place_in (map (λ s. s.name) xs)) c.as_slice.ensures.value ∙ ap substation_place c.rows.view_is in
    let rows : c.as_slice-2.result.now ≡ c.args.rows.now.buses = c.as_slice-2.ensures.value ∙ ap (λ w. w.buses) c.rows.view_is in
    rw (← found, ← rows) c.buses_in.ensures.value
