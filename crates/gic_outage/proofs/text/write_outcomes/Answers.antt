use Rattle.std.proofs.Common.{rules, ◌≡◌, ◌≤◌, Some, None, length, sym}
use Rattle.std.proofs.lemmas.List.{drop_all}
use Rattle.std.specs.List.{slice_get}
use Rattle.gic_outage.specs.OutageText.{plan_names}
use Rattle.gic_report.proofs.Written.{goes_on, stops, ends}
use Rattle.gic_outage.proofs.OutageWritten.{next_outcome, no_name_left, no_outcome_left}
use Rattle.gic_outage.proofs.text.write_outcomes.Goals as goal

pub returns-in_default : goal.returns-in_default
returns-in_default g c =
    let none : slice_get (plan_names c.args.case.now) c.loop-place.place ≡ None = search rules in
    ends c.loop-place.invariant.written (no_name_left (plan_names c.args.case.now) _ c.loop-place.place none)

pub returns-in_err-write_outcome : goal.returns-in_err-write_outcome
returns-in_err-write_outcome g c =
    let some : slice_get (plan_names c.args.case.now) c.loop-place.place ≡ Some c.in-Some.name = search rules in
    let next = next_outcome (plan_names c.args.case.now) c.args.outcomes.now c.loop-place.place c.in-Some.name c.index-outcomes-place.result some (search rules) (sym c.index-outcomes-place.is) in
    stops _ c.loop-place.invariant.written next c.in_err-write_outcome.ensures c.from_residual.ensures.1

pub loop-place-preserved : goal.loop-place-preserved
loop-place-preserved g c =
    let some : slice_get (plan_names c.args.case.now) c.loop-place.place ≡ Some c.in-Some.name = search rules in
    let next = next_outcome (plan_names c.args.case.now) c.args.outcomes.now c.loop-place.place c.in-Some.name c.index-outcomes-place.result some (search rules) (sym c.index-outcomes-place.is) in
    record { written = goes_on c.loop-place.invariant.written next c.in_ok-write_outcome.ensures }

pub returns : goal.returns
returns g c =
    let all : length c.args.outcomes.now ≤ c.loop-place.place = search rules in
    ends c.loop-place.invariant.written (no_outcome_left _ _ (drop_all c.loop-place.place c.args.outcomes.now all))
