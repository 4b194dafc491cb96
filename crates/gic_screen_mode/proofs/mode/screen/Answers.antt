use Rattle.std.proofs.Common.{ℕ, ℤ, List, [], ◌∷◌, pos, refl, subst}
use Rattle.gic_model.specs.Sums.{Placed}
use Rattle.gic_model.specs.Voltages.{number_at}
use Rattle.gic_net.specs.Net.{standing}
use Rattle.gic_criteria.specs.Event.{field_of}
use Rattle.gic_stand.specs.Needs.{Solved, Fails}
use Rattle.gic_stand.specs.Serves.{Serves, shown}
use Rattle.gic_stand.specs.Standing.{standing_of}
use Rattle.gic_stand.proofs.Served.{served, met_once, unserved_network}
use Rattle.gic_uniform.specs.Uniform.{uniform_volts}
use Rattle.gic_uniform.proofs.InField.{in_field, in_volts}
use Rattle.gic_screen_mode.specs.RightScreen.{ShowsRightRows, IsRightScreen}
use Rattle.gic_screen_mode.proofs.mode.screen.Goals as goal

pub returns : goal.returns
returns g c =
    let inputs = c.args.inputs.now in
    let case = inputs.case in
    let criteria = inputs.question in
    let workspace = c.args.workspace.now in
    let stands = standing workspace.net in
    let north : ℕ → ℤ = number_at workspace.volts.north in
    let east : ℕ → ℤ = number_at workspace.volts.east in
    let before = shown g.S.Sink.written g.S.Sink.faults c.args.out.now in
    let now = shown g.S.Sink.written g.S.Sink.faults c.write_rows-writing.new.out in
    let to_east : ℕ → ℤ = uniform_volts case (pos 0) (field_of criteria.event) in
    in_field case inputs.switchings (field_of criteria.event) (pos 0) stands workspace.volts.north
    (λ (s : List Placed) (v : ℕ → ℤ). Serves Solved case (s ∷ []) (ShowsRightRows case s v to_east criteria) before now c.ended.result)
    c.requires.workspace.stands c.requires.workspace.volts.in_north
    (in_volts case (pos 0) (field_of criteria.event) workspace.volts.east
    (λ (v : ℕ → ℤ). Serves Solved case (stands ∷ []) (ShowsRightRows case stands north v criteria) before now c.ended.result)
    c.requires.workspace.volts.in_east
    (served Solved case _ (ShowsRightRows case stands north east criteria) _ _ _ c.write_rows-writing.result c.ended.result
    (met_once Solved stands c.in_ok-screen_net.ensures.solvable)
    (record { rows = c.screen_net.new.workspace.rows; right = c.in_ok-screen_net.ensures.right; text_is = refl })
    c.write_rows-writing.ensures.all c.write_rows-writing.ensures.part c.write_rows-writing.ensures.cause c.ended.ensures))

pub returns-in_err-screen_net : goal.returns-in_err-screen_net
returns-in_err-screen_net g c =
    let inputs = c.args.inputs.now in
    let refusal = c.in_err-screen_net.field-0.0 in
    unserved_network Solved inputs.case (standing_of inputs.case inputs.switchings) (IsRightScreen inputs) (shown g.S.Sink.written g.S.Sink.faults c.args.out.now) refusal
    c.from_residual.result c.from_residual.ensures.1
    (subst (λ (s : List Placed). Fails Solved inputs.case 1 s refusal) c.requires.workspace.stands c.in_err-screen_net.ensures.err)
