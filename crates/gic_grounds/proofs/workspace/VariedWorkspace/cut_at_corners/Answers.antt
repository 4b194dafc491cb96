use Rattle.std.proofs.Common.{List, ap, sym, subst, subst₂, ◌∙◌}
use Rattle.gic_fixed.specs.Ends.{Ends, ends_of}
use Rattle.gic_grounds.specs.declared.workspace.VariedWorkspace.{VariedWorkspace}
use Rattle.gic_grounds.specs.declared.extreme.Extreme.TheVariants.{Least}
use Rattle.gic_grounds.specs.declared.nets.GroundNets.{GroundNets}
use Rattle.gic_grounds.specs.Corner.{is_most_at, IsChosen}
use Rattle.gic_grounds.specs.Tolerated.{tolerated, AreNetsOf}
use Rattle.gic_grounds.proofs.CutAtCorners.{inside_through, kept_reference}
use Rattle.gic_grounds.proofs.workspace.VariedWorkspace.cut_at_corners.Goals as goal

pub returns-clause-right : goal.returns-clause-right
returns-clause-right c rows percent of_nets quiet effect =
    let v = tolerated c.args.case.now rows percent in
    let once = c.cut_at_corner-once.new.self in
    let rest = c.cut_at_corner-once.ensures.rest in
    let least = is_most_at c.cut_at_corner.new.self.at_corner.corner in
    record {
      greatest = is_most_at once.at_corner.corner;
      least = least;
      between = ends_of c.cut_at_corner-once.result;
      greatest_chosen = c.cut_at_corner-once.ensures.chosen;
      least_chosen = subst₂ (λ (adjoint reference : List Ends). IsChosen Least adjoint reference least)
          (ap (λ (w : VariedWorkspace). w.adjoint) rest) (kept_reference c.args.direction c.args.self.now once rest)
          c.cut_at_corner.ensures.chosen;
      first_cut = c.cut_at_corner-once.ensures.right rows percent of_nets quiet effect;
      second_cut = c.cut_at_corner.ensures.right rows percent
          (subst (λ (n : GroundNets). AreNetsOf v n) (sym (ap (λ (w : VariedWorkspace). w.nets) rest)) of_nets) quiet effect;
    }

pub returns-clause-inside : goal.returns-clause-inside
returns-clause-inside c =
    inside_through (ends_of c.args.before) (ends_of c.cut_at_corner-once.result) (ends_of c.cut_at_corner.result)
    c.cut_at_corner-once.ensures.inside c.cut_at_corner.ensures.inside

pub returns-clause-rest : goal.returns-clause-rest
returns-clause-rest c =
    c.cut_at_corner.ensures.rest ∙
    ap (λ (w : VariedWorkspace). record w {
      solving = c.cut_at_corner.new.self.solving;
      volts = c.cut_at_corner.new.self.volts;
      at_corner = c.cut_at_corner.new.self.at_corner;
    }) c.cut_at_corner-once.ensures.rest
