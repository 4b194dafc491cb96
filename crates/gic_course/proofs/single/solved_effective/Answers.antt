use Rattle.std.proofs.Common.{◌≡◌, ◌+◌, ◌-◌, List, ℤ, arith, ap, subst, ◌∙◌}
use Rattle.gic_fixed.specs.Ends.{IsAtMostWide, ends_of}
use Rattle.gic_model.specs.Network.{Network}
use Rattle.gic_model.specs.Voltages.{number_at}
use Rattle.gic_net.specs.Net.{standing}
use Rattle.gic_induce.specs.LineVolts.{volts_of}
use Rattle.gic_winding.specs.ElementList.{elements_of}
use Rattle.gic_effective.specs.RightView.{IsRightEffective}
use Rattle.gic_effective.proofs.Held.{certain_holds}
use Rattle.gic_course.proofs.single.solved_effective.Goals as goal

pub returns-clause-shown : goal.returns-clause-shown
returns-clause-shown c =
    let case = c.args.case.now in
    let stand = standing c.args.net.now in
    let workspace = c.solve_fields.new.workspace in
    let interval = c.effective_interval.result in
    let done = c.solve_fields.ensures in
    let induced : workspace.volts ≡ volts_of case c.args.workspace.now.fields (elements_of case).list = done.induced ∙ ap (λ (n : Network). volts_of case c.args.workspace.now.fields n.list) c.requires.network in
    let same : (c.args.width - 1) + 1 ≡ c.args.width = omega (arith, c.requires.width.least) in
    record {
      right = subst (λ (v : List ℤ). IsRightEffective case stand (number_at v) c.args.transformer (ends_of interval)) induced
          (c.effective_interval.ensures.right (certain_holds stand (number_at workspace.volts) workspace.solve_workspace.potentials done.solved.certain));
      narrow = subst (λ n. IsAtMostWide n interval.lo interval.hi) same (c.effective_interval.ensures.narrow (c.args.width - 1) done.solved.sharp);
    }
