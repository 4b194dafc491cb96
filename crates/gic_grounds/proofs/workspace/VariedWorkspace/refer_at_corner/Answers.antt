use Rattle.std.proofs.Common.{◌≡◌, ℕ, List, length, refl, ap, sym, subst, subst₂, ◌∙◌}
use Rattle.gic_fixed.specs.Ends.{Ends}
use Rattle.gic_model.specs.Limits.{IsWithinLimits}
use Rattle.gic_model.specs.Network.{Network}
use Rattle.gic_winding.specs.ElementList.{elements_of}
use Rattle.gic_grounds.specs.declared.unit.TheConstants.{MOST_UNITS}
use Rattle.gic_grounds.specs.declared.varied.VariedPotentials.{VariedPotentials}
use Rattle.gic_grounds.specs.Corner.{is_most_at}
use Rattle.gic_grounds.specs.Lifted.{CanSolve, CanSolveBoth, HasReferenceSpace}
use Rattle.gic_grounds.specs.Varying.{AreVariedOf}
use Rattle.gic_grounds.proofs.AtCorners.{corner_can, ready_still}
use Rattle.gic_grounds.proofs.BothNets.{both_still}
use Rattle.gic_grounds.proofs.workspace.VariedWorkspace.refer_at_corner.Goals as goal

pub go_to_corner-requires-clause-same_count : goal.go_to_corner-requires-clause-same_count
go_to_corner-requires-clause-same_count c =
    c.requires.ready.can_solve.most.element_count ∙ sym c.requires.ready.can_solve.least.element_count

pub solve_reference-requires-clause-ready : goal.solve_reference-requires-clause-ready
solve_reference-requires-clause-ready c =
    let case = c.args.case.now in
    let w = c.args.self.now in
    let space = c.requires.ready.has_space in
    subst (λ (n : Network). CanSolve n.nodes (length n.list) c.go_to_corner.new.net w.solving) (sym space.elements)
    (corner_can case w.nets (is_most_at w.at_corner.corner) c.go_to_corner.new.net (elements_of case).nodes (length (elements_of case).list)
    w.solving space.nets (subst IsWithinLimits space.elements c.within_limits.ensures) c.corner_law.ensures c.other_grounds_law.ensures.bound
    c.go_to_corner.ensures c.requires.ready.can_solve)

pub solve_reference-requires-clause-space : goal.solve_reference-requires-clause-space
solve_reference-requires-clause-space c =
    subst (λ (n : Network). HasReferenceSpace n.nodes (length c.args.case.now.transformers) c.args.self.now.at_corner.reference)
    (sym c.requires.ready.has_space.elements) c.requires.ready.has_space.corner_space.reference_space

pub lift_both-requires-clause-ready : goal.lift_both-requires-clause-ready
lift_both-requires-clause-ready c =
    let nodes = c.in_units.ensures.count ∙ c.solve_reference.ensures.space.varied_count.reference_count
    ∙ ap (λ (n : Network). n.nodes) c.requires.ready.has_space.elements in
    subst₂ (λ (n m : ℕ). CanSolveBoth n m c.args.self.now.nets c.solve_reference.new.solving) (sym nodes)
    (sym c.requires.ready.has_space.adjoint_space.volt_count)
    (ready_still c.args.case.now c.args.self.now c.solve_reference.new.solving c.requires.ready c.solve_reference.ensures.still)

pub lift_both-requires-clause-units : goal.lift_both-requires-clause-units
lift_both-requires-clause-units c = c.in_units.ensures.within MOST_UNITS c.potential_unit-unit.ensures.least.in_north

-- in units there are as many intervals
in_units_space : (nodes : ℕ) (varied : VariedPotentials) (reference : List Ends) → AreVariedOf nodes varied →
    length reference ≡ length varied.reference → AreVariedOf (length reference) (record varied { reference = reference })
in_units_space nodes varied reference h same = record {
  reference_count = refl;
  lowering_count = h.lowering_count ∙ sym (same ∙ h.reference_count);
  raising_count = h.raising_count ∙ sym (same ∙ h.reference_count);
}

pub lift_both-requires-clause-space : goal.lift_both-requires-clause-space
lift_both-requires-clause-space c =
    in_units_space c.args.self.now.elements.nodes c.solve_reference.new.out.potentials c.in_units.new.self
    c.solve_reference.ensures.space.varied_count c.in_units.ensures.count

pub returns-clause-referred : goal.returns-clause-referred
returns-clause-referred c quiet = record {
  grains = c.solve_reference.new.out.potentials.reference;
  net_there = c.go_to_corner.ensures;
  refers = record {
    limit = c.within_limit.ensures;
    no_ground = quiet;
    certain = c.solve_reference.ensures.solved.certain;
    tight = c.solve_reference.ensures.solved.tight;
    rounded = c.lift_both.ensures.reference ∙ c.in_units.ensures.rounded;
    own = c.solve_reference.ensures.solved.own;
    lifted = c.lift_both.ensures.lifted;
  };
  least_unit = c.potential_unit-unit.ensures.least;
}

pub returns-clause-reference : goal.returns-clause-reference
returns-clause-reference c = record {
  small_unit = record { some = c.potential_unit-unit.ensures.least.above_0; small = c.potential_unit-unit.ensures.small };
  varied_within = c.lift_both.ensures.lifted.within;
  own_within = c.solve_reference.ensures.solved.own_within;
}

pub returns-clause-ready : goal.returns-clause-ready
returns-clause-ready c =
    let w = c.args.self.now in
    let space = c.requires.ready.has_space in
    let nodes = c.in_units.ensures.count ∙ c.solve_reference.ensures.space.varied_count.reference_count
    ∙ ap (λ (n : Network). n.nodes) space.elements in
    let can = both_still _ _ _ _ w.nets c.solve_reference.new.solving c.lift_both.new.solving nodes space.adjoint_space.volt_count
    c.lift_both.ensures.still (ready_still c.args.case.now w c.solve_reference.new.solving c.requires.ready c.solve_reference.ensures.still) in
    record {
      has_space = record {
        elements = space.elements;
        nets = space.nets;
        solving = can.least.has_space;
        adjoint_space = record {
          volt_count = c.lift_both.ensures.volts ∙ space.adjoint_space.volt_count;
          adjoint_count = space.adjoint_space.adjoint_count;
        };
        north_space = space.north_space;
        east_space = space.east_space;
        least_corner = space.least_corner;
        corner_space = record {
          some_corner = record { corner = is_most_at w.at_corner.corner; at_corner = c.go_to_corner.ensures };
          mark_count = space.corner_space.mark_count;
          reference_space = record {
            own_count = c.solve_reference.ensures.space.own_count;
            varied_count = subst (λ n. AreVariedOf n c.lift_both.new.out) nodes c.lift_both.ensures.space;
          };
          adjoint_count = space.corner_space.adjoint_count;
        };
      };
      solvable = c.requires.ready.solvable;
      can_solve = can;
    }
