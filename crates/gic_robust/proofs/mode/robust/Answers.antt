use Rattle.std.proofs.Common.{◌≡◌, ℕ, ℤ, pos, refl, sym, subst, ◌∙◌}
use Rattle.gic_criteria.specs.Event.{field_of}
use Rattle.gic_grounds.specs.declared.nets.GroundNets.{GroundNets}
use Rattle.gic_grounds.specs.Tolerated.{AreNetsOf, most_in}
use Rattle.gic_inputs.specs.Inputs.{rows_in}
use Rattle.gic_model.specs.Voltages.{number_at}
use Rattle.gic_net.specs.Net.{standing}
use Rattle.gic_stand.specs.Needs.{Solved}
use Rattle.gic_stand.specs.Serves.{Serves, shown}
use Rattle.gic_stand.specs.Standing.{IsSolvable}
use Rattle.gic_stand.proofs.Served.{served, met_once, unserved_network}
use Rattle.gic_uniform.specs.Uniform.{uniform_field, uniform_volts}
use Rattle.gic_uniform.proofs.InField.{in_volts}
use Rattle.gic_robust.specs.RightRobust.{ShowsRobustRows, IsRightRobust}
use Rattle.gic_robust.specs.Steps.{tolerated_of, most_steps}
use Rattle.gic_robust.proofs.GroundVolts.{quiet_at_grounds}
use Rattle.gic_robust.proofs.Referred.{same_nets}
use Rattle.gic_robust.proofs.mode.robust.Goals as goal

pub returns : goal.returns
returns g c =
    let inputs = c.args.inputs.now in
    let case = inputs.case in
    let v = tolerated_of inputs in
    let field = field_of inputs.question.criteria.event in
    let workspace = c.args.workspace.now in
    let given = c.requires.workspace in
    let north : ℕ → ℤ = number_at workspace.volts.north in
    let east : ℕ → ℤ = number_at workspace.volts.east in
    let before = shown g.S.Sink.written g.S.Sink.faults c.args.out.now in
    let now = shown g.S.Sink.written g.S.Sink.faults c.write_rows-writing.new.out in
    let looked : c.look.new.self.nets ≡ workspace.varied.nets = same_nets workspace.varied c.look.new.self c.in_ok-look.ensures.rest in
    let solvable : IsSolvable (most_in v) =
    subst IsSolvable given.nets.extremes.most_standing
    (subst (λ (n : GroundNets). IsSolvable (standing n.most)) looked c.in_ok-look.ensures.ready.solvable) in
    let nets : AreNetsOf v c.refer.new.self.nets = subst (AreNetsOf v) (sym (c.refer.ensures.nets ∙ looked)) given.nets in
    let referred = c.refer.ensures.referred
    (quiet_at_grounds case (uniform_field case field (pos 0)) workspace.volts.north given.volts.in_north)
    (quiet_at_grounds case (uniform_field case (pos 0) field) workspace.volts.east given.volts.in_east) in
    let to_east : ℕ → ℤ = uniform_volts case (pos 0) field in
    in_volts case field (pos 0) workspace.volts.north
    (λ (volts : ℕ → ℤ). Serves Solved case (most_steps inputs) (ShowsRobustRows v volts to_east inputs.question) before now c.ended.result)
    given.volts.in_north
    (in_volts case (pos 0) field workspace.volts.east
    (λ (volts : ℕ → ℤ). Serves Solved case (most_steps inputs) (ShowsRobustRows v north volts inputs.question) before now c.ended.result)
    given.volts.in_east
    (served Solved case (most_steps inputs) (ShowsRobustRows v north east inputs.question) _ _ _ c.write_rows-writing.result c.ended.result
    (met_once Solved (most_in v) solvable)
    (record {
      rows = c.fill_rows.new.rows;
      right = c.fill_rows.ensures.right (rows_in inputs.switchings) inputs.question.tolerance nets referred;
      text_is = refl;
    })
    c.write_rows-writing.ensures.all c.write_rows-writing.ensures.part c.write_rows-writing.ensures.cause c.ended.ensures))

pub returns-in_err-look : goal.returns-in_err-look
returns-in_err-look g c =
    let inputs = c.args.inputs.now in
    let v = tolerated_of inputs in
    unserved_network Solved inputs.case (most_in v) (IsRightRobust inputs)
    (shown g.S.Sink.written g.S.Sink.faults c.args.out.now) c.in_err-look.field-0.0 c.from_residual.result c.from_residual.ensures.1 (c.in_err-look.ensures.err v c.requires.workspace.nets)
