use Rattle.std.proofs.Common.{◌≡◌, map, ap, ◌∙◌}
use Rattle.std.specs.HashMap.{get}
use Rattle.gic_case.specs.Names.{same, place_in}
use Rattle.gic_case_reader.specs.Rules.{bus_place}
use Rattle.gic_case_reader.proofs.reference.resolved_transformers.Goals as goal

pub returns-clause-value : goal.returns-clause-value
returns-clause-value c =
    let buses : get same c.in_ok-places.places ≡ bus_place c.args.rows.now =
    c.in_ok-places.ensures ∙ ap (λ xs. place_in (map (λ b. b.name) xs)) c.as_slice.ensures.value ∙ ap bus_place c.rows.view_is in
    let rows : c.as_slice-2.result.now ≡ c.args.rows.now.transformers = c.as_slice-2.ensures.value ∙ ap (λ w. w.transformers) c.rows.view_is in
    rw (← buses, ← rows) c.transformers_in.ensures.value
