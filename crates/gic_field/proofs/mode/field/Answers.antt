use Rattle.std.proofs.Common.{ℕ, ℤ, List, [], ◌∷◌, refl, subst, arith}
use Rattle.gic_model.specs.Sums.{Placed}
use Rattle.gic_model.specs.Voltages.{number_at}
use Rattle.gic_net.specs.Net.{standing}
use Rattle.gic_stand.specs.Needs.{Solved, Fails}
use Rattle.gic_stand.specs.Serves.{Serves, shown}
use Rattle.gic_stand.specs.Standing.{standing_of}
use Rattle.gic_stand.proofs.Served.{served, met_once, unserved_network}
use Rattle.gic_uniform.proofs.InField.{in_field}
use Rattle.gic_field.specs.RightField.{ShowsRightView, IsRightField}
use Rattle.gic_field.proofs.Fits.{have_absolutes}
use Rattle.gic_field.proofs.mode.field.Goals as goal

pub solve_view-requires-clause-width : goal.solve_view-requires-clause-width
solve_view-requires-clause-width g c = record { least = omega (arith, c.requires.ranges.criteria.least); most = omega (arith, c.requires.ranges.criteria.most) }

pub write_view-writing-requires : goal.write_view-writing-requires
write_view-writing-requires g c = have_absolutes c.args.inputs.now.case c.solve_view.new.view c.solve_view.ensures.solved.right.lengths.transformers c.solve_view.ensures.solved.small

pub returns : goal.returns
returns g c =
    let inputs = c.args.inputs.now in
    let case = inputs.case in
    let question = inputs.question in
    let workspace = c.args.workspace.now in
    let stands = standing workspace.net in
    let volts : ℕ → ℤ = number_at workspace.volts in
    let before = shown g.S.Sink.written g.S.Sink.faults c.args.out.now in
    let now = shown g.S.Sink.written g.S.Sink.faults c.write_view-writing.new.out in
    in_field case inputs.switchings question.field.north question.field.east stands workspace.volts
    (λ (s : List Placed) (v : ℕ → ℤ). Serves Solved case (s ∷ []) (ShowsRightView case s v question) before now c.ended.result)
    c.requires.workspace.stands c.requires.workspace.volts
    (served Solved case _ (ShowsRightView case stands volts question) _ _ _ c.write_view-writing.result c.ended.result
    (met_once Solved stands c.in_ok-expect_solvable.ensures.ready.solvable)
    (record { view = c.solve_view.new.view; right = c.solve_view.ensures.solved.right; narrow = c.solve_view.ensures.solved.narrow; text_is = refl })
    c.write_view-writing.ensures.all c.write_view-writing.ensures.part c.write_view-writing.ensures.cause c.ended.ensures)

pub returns-in_err-expect_solvable : goal.returns-in_err-expect_solvable
returns-in_err-expect_solvable g c =
    let inputs = c.args.inputs.now in
    let refusal = c.in_err-expect_solvable.field-0.0 in
    unserved_network Solved inputs.case (standing_of inputs.case inputs.switchings) (IsRightField inputs) (shown g.S.Sink.written g.S.Sink.faults c.args.out.now) refusal
    c.from_residual.result c.from_residual.ensures.1
    (subst (λ (s : List Placed). Fails Solved inputs.case 1 s refusal) c.requires.workspace.stands c.in_err-expect_solvable.ensures.err)
