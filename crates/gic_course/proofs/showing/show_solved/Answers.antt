use Rattle.std.proofs.Common.{◌≡◌, List, ℤ, arith, ap, subst, ◌∙◌}
use Rattle.gic_model.specs.Limits.{AreVolts}
use Rattle.gic_model.specs.Network.{Network}
use Rattle.gic_model.specs.Voltages.{number_at}
use Rattle.gic_net.specs.Net.{standing}
use Rattle.gic_induce.specs.LineVolts.{volts_of}
use Rattle.gic_winding.specs.ElementList.{elements_of}
use Rattle.gic_effective.specs.RightView.{IsRightView}
use Rattle.gic_effective.proofs.Held.{certain_holds}
use Rattle.gic_course.proofs.Told.{have_absolutes}
use Rattle.gic_course.proofs.showing.show_solved.Goals as goal

pub returns-clause-shown : goal.returns-clause-shown
returns-clause-shown c =
    let case = c.args.case.now in
    let stand = standing c.args.net.now in
    let workspace = c.solve_fields.new.workspace in
    let view = c.fill_view.new.out in
    let done = c.solve_fields.ensures in
    let induced : workspace.volts ≡ volts_of case c.args.workspace.now.fields (elements_of case).list = done.induced ∙ ap (λ (n : Network). volts_of case c.args.workspace.now.fields n.list) c.requires.network in
    record {
      right = subst (λ (v : List ℤ). IsRightView case stand (number_at v) view) induced (c.fill_view.ensures.right (certain_holds stand (number_at workspace.volts) workspace.solve_workspace.potentials done.solved.certain));
      narrow = c.fill_view.ensures.narrow _ c.args.width (omega (arith, c.requires.width.least)) done.solved.sharp;
      absolutes = have_absolutes view c.fill_view.ensures.small;
      driven = subst (λ (v : List ℤ). AreVolts (number_at v)) induced c.within_limit.ensures;
    }
