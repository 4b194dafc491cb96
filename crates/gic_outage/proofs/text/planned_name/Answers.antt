use Rattle.std.proofs.Common.{rules, arith, ◌≡◌, ◌≤◌, ◌<◌, ◌-◌, length, get_or, sym, refl}
use Rattle.std.proofs.lemmas.Option.{slice_get_past, slice_get_read}
use Rattle.gic_outage.proofs.PlanNames.{name_of_line, name_of_transformer, no_name}
use Rattle.gic_outage.proofs.text.planned_name.Goals as goal

pub returns-in-Some : goal.returns-in-Some
returns-in-Some c =
    let inside : c.args.place < length c.args.case.now.lines = search rules in
    let same : c.in-Some.row.now ≡ get_or c.args.case.now.lines c.args.place c.in-Some.row.now = search rules in
    sym (name_of_line c.args.case.now c.args.place c.in-Some.row.now (slice_get_read c.args.case.now.lines _ c.args.place c.in-Some.row.now refl inside same))

pub returns-in-Some-get : goal.returns-in-Some-get
returns-in-Some-get c =
    let past : length c.args.case.now.lines ≤ c.args.place = search rules in
    let inside : c.args.place - length c.args.case.now.lines < length c.args.case.now.transformers = search rules in
    let same : c.in-Some-get.row.now ≡ get_or c.args.case.now.transformers (c.args.place - length c.args.case.now.lines) c.in-Some-get.row.now = search rules in
    sym (name_of_transformer c.args.case.now c.args.place (c.args.place - length c.args.case.now.lines) c.in-Some-get.row.now (omega (arith, past))
    (slice_get_read c.args.case.now.transformers _ (c.args.place - length c.args.case.now.lines) c.in-Some-get.row.now refl inside same))

pub returns : goal.returns
returns c =
    let past : length c.args.case.now.lines ≤ c.args.place = search rules in
    let beyond : length c.args.case.now.transformers ≤ c.args.place - length c.args.case.now.lines = search rules in
    sym (no_name c.args.case.now c.args.place (c.args.place - length c.args.case.now.lines) (omega (arith, past)) (slice_get_past c.args.case.now.transformers _ beyond))
