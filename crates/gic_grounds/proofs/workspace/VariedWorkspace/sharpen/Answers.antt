use Rattle.std.proofs.Common.{List, ap, sym, subst, subst₂}
use Rattle.gic_effective.specs.RightView.{HasNoEffect}
use Rattle.gic_fixed.specs.Ends.{Ends, ends_of}
use Rattle.gic_model.specs.Voltages.{number_at}
use Rattle.gic_grounds.specs.declared.nets.GroundNets.{GroundNets}
use Rattle.gic_grounds.specs.declared.workspace.VariedWorkspace.{VariedWorkspace}
use Rattle.gic_grounds.specs.Tolerated.{tolerated, AreNetsOf, own_in}
use Rattle.gic_grounds.specs.VariedCurrent.{IsCutAtCorners}
use Rattle.gic_grounds.proofs.CutAtCorners.{cuts_keep}
use Rattle.gic_grounds.proofs.Holding.{effect_of_least, effect_of_own}
use Rattle.gic_grounds.proofs.workspace.VariedWorkspace.sharpen.Goals as goal

-- a transformer without an effect is none that is cut
pub returns-then-not-has_effect-clause-cut : goal.returns-then-not-has_effect-clause-cut
returns-then-not-has_effect-clause-cut c rows percent of_nets quiet_north quiet_east effect =
    let v = tolerated c.args.case.now rows percent in
    absurd (effect (effect_of_own v c.args.self.now.nets of_nets c.args.transformer (c.has_effect.ensures.none c.if-not-has_effect.true)))

pub returns-clause-right : goal.returns-clause-right
returns-clause-right c rows percent of_nets quiet_north quiet_east currents =
    let v = tolerated c.args.case.now rows percent in
    let nets = c.args.self.now.nets in
    let t = c.args.transformer in
    let effect : HasNoEffect v.case (own_in v) t → ⊥ = λ none. c.has_effect.ensures.some c.if-not-has_effect.false (effect_of_least v nets of_nets t none) in
    let same = ap (λ (w : VariedWorkspace). w.nets) c.cut_at_corners.ensures.rest in
    let references = currents.references in
    record {
      references = references;
      of_case = currents.of_case;
      to_north = cuts_keep v _ _ (number_at c.args.north.now) references.unit references.north t (ends_of c.args.currents.north)
          (ends_of c.cut_at_corners.result) effect (c.cut_at_corners.ensures.right rows percent of_nets quiet_north effect) currents.to_north;
      to_east = cuts_keep v _ _ (number_at c.args.east.now) references.unit references.east t (ends_of c.args.currents.east)
          (ends_of c.cut_at_corners-2.result) effect
          (c.cut_at_corners-2.ensures.right rows percent (subst (λ (n : GroundNets). AreNetsOf v n) (sym same) of_nets) quiet_east effect)
          currents.to_east;
    }

pub returns-clause-cut : goal.returns-clause-cut
returns-clause-cut c rows percent of_nets quiet_north quiet_east effect =
    let v = tolerated c.args.case.now rows percent in
    let rest = c.cut_at_corners.ensures.rest in
    let same = ap (λ (w : VariedWorkspace). w.nets) rest in
    record {
      to_north = c.cut_at_corners.ensures.right rows percent of_nets quiet_north effect;
      to_east = subst₂ (λ (adjoint reference : List Ends). IsCutAtCorners v adjoint reference (number_at c.args.east.now) c.args.transformer
          (ends_of c.args.currents.east) (ends_of c.cut_at_corners-2.result))
          (ap (λ (w : VariedWorkspace). w.adjoint) rest) (ap (λ (w : VariedWorkspace). w.east.potentials.reference) rest)
          (c.cut_at_corners-2.ensures.right rows percent (subst (λ (n : GroundNets). AreNetsOf v n) (sym same) of_nets) quiet_east effect);
    }
