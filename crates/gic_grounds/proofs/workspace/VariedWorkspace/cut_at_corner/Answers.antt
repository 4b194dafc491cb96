use Rattle.std.proofs.Common.{Bool, List, ap, sym, subst, ◌∙◌}
use Rattle.gic_fixed.specs.Ends.{ends_of}
use Rattle.gic_model.specs.Voltages.{number_at}
use Rattle.gic_grounds.specs.declared.workspace.VariedWorkspace.{VariedWorkspace}
use Rattle.gic_grounds.specs.declared.nets.GroundNets.{GroundNets}
use Rattle.gic_grounds.specs.Corner.{is_most_at, IsChosen}
use Rattle.gic_grounds.specs.Tolerated.{tolerated, AreNetsOf}
use Rattle.gic_grounds.specs.Varied.{reference_to}
use Rattle.gic_grounds.specs.VariedCurrent.{IsInside, IsCutAtCorner}
use Rattle.gic_grounds.proofs.AtCorners.{ready_elsewhere}
use Rattle.gic_grounds.proofs.CutAtCorners.{common_inside}
use Rattle.gic_grounds.proofs.workspace.VariedWorkspace.cut_at_corner.Goals as goal

pub choose-requires : goal.choose-requires
choose-requires c =
    let space = c.requires.ready.has_space in
    record {
      counts = record {
        mark_count = space.corner_space.mark_count ∙ sym space.adjoint_space.adjoint_count;
        north_count = space.north_space.varied_count.reference_count ∙ sym space.adjoint_space.adjoint_count;
        east_count = space.east_space.varied_count.reference_count ∙ sym space.adjoint_space.adjoint_count;
      };
    }

pub enclose_at_corner-other-requires-clause-ready : goal.enclose_at_corner-other-requires-clause-ready
enclose_at_corner-other-requires-clause-ready c =
    ready_elsewhere c.args.case.now c.args.self.now c.choose.new.self c.choose.ensures.rest c.choose.ensures.count c.requires.ready

pub returns-clause-right : goal.returns-clause-right
returns-clause-right c rows percent of_nets quiet effect =
    let v = tolerated c.args.case.now rows percent in
    let same = ap (λ (w : VariedWorkspace). w.nets) c.choose.ensures.rest in
    subst (λ (marks : List Bool). IsCutAtCorner v (is_most_at marks) (number_at c.args.field.now) c.args.transformer
    (ends_of c.args.before) (ends_of c.common.result)) (sym c.enclose_at_corner-other.ensures.same_corner)
    (record {
      other = ends_of c.enclose_at_corner-other.result;
      at_corner = c.enclose_at_corner-other.ensures.right rows percent (subst (λ (n : GroundNets). AreNetsOf v n) (sym same) of_nets) quiet effect;
      is = c.common.ensures;
    })

pub returns-clause-chosen : goal.returns-clause-chosen
returns-clause-chosen c =
    let before = c.args.self.now in
    subst (λ (marks : List Bool). IsChosen c.args.extreme before.adjoint (reference_to c.args.direction before) (is_most_at marks))
    (sym c.enclose_at_corner-other.ensures.same_corner) c.choose.ensures.chosen

pub returns-clause-inside : goal.returns-clause-inside
returns-clause-inside c =
    subst (IsInside (ends_of c.args.before)) (sym c.common.ensures) (common_inside (ends_of c.args.before) (ends_of c.enclose_at_corner-other.result))

pub returns-clause-rest : goal.returns-clause-rest
returns-clause-rest c =
    c.enclose_at_corner-other.ensures.rest ∙
    ap (λ (w : VariedWorkspace). record w {
      solving = c.enclose_at_corner-other.new.self.solving;
      volts = c.enclose_at_corner-other.new.self.volts;
      at_corner = c.enclose_at_corner-other.new.self.at_corner;
    }) c.choose.ensures.rest
