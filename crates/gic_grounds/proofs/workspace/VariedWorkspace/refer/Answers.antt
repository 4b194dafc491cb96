use Rattle.std.proofs.Common.{◌≡◌, ℕ, Bool, List, length, refl, ap, sym, subst, ◌∙◌}
use Rattle.gic_case.specs.Lists.{Lists}
use Rattle.gic_fixed.specs.Ends.{Ends}
use Rattle.gic_model.specs.Network.{Network}
use Rattle.gic_uniform.specs.declared.solve_workspace.SolveWorkspace.{SolveWorkspace}
use Rattle.gic_varied.specs.Corners.{all_least}
use Rattle.gic_winding.specs.ElementList.{elements_of}
use Rattle.gic_grounds.specs.declared.nets.GroundNets.{GroundNets}
use Rattle.gic_grounds.specs.declared.unit.TheConstants.{MOST_UNITS}
use Rattle.gic_grounds.specs.declared.varied.VariedPotentials.{VariedPotentials}
use Rattle.gic_grounds.specs.declared.workspace.VariedWorkspace.{VariedWorkspace}
use Rattle.gic_grounds.specs.Corner.{is_most_at}
use Rattle.gic_grounds.specs.Lifted.{CanSolve, CanSolveBoth, StillSolves, HasReferenceSpace, AreBothLifted}
use Rattle.gic_grounds.specs.Modest.{AreModestNetworks}
use Rattle.gic_grounds.specs.Tolerated.{AreNetsFor}
use Rattle.gic_grounds.specs.Varied.{IsReadyToVary, HasCornerSpace}
use Rattle.gic_grounds.specs.Varying.{AreVariedOf}
use Rattle.gic_grounds.proofs.BothNets.{recounted_both, both_still, the_nets, together_again, solved_again}
use Rattle.gic_grounds.proofs.workspace.VariedWorkspace.refer.Goals as goal

-- both nets can be solved after both references were
after_references : (case : Lists) (w : VariedWorkspace) (one two : SolveWorkspace) → IsReadyToVary case w →
    StillSolves w.elements.nodes (length w.elements.list) w.solving one → StillSolves w.elements.nodes (length w.elements.list) one two →
    CanSolveBoth (elements_of case).nodes (length (elements_of case).list) w.nets two
after_references case w one two ready first second =
    let network = elements_of case in
    let nodes = ap (λ (n : Network). n.nodes) ready.has_space.elements in
    let count = ap (λ (n : Network). length n.list) ready.has_space.elements in
    both_still network.nodes (length network.list) w.elements.nodes (length w.elements.list) w.nets one two nodes count second
    (both_still network.nodes (length network.list) w.elements.nodes (length w.elements.list) w.nets w.solving one nodes count first
    ready.can_solve)

-- the workspace's own corner is the one with all grounds at their least
at_least : (case : Lists) (w : VariedWorkspace) (nets : GroundNets) (varied : VariedPotentials) → IsReadyToVary case w →
    AreBothLifted nets (is_most_at w.all_least) varied → AreBothLifted nets all_least varied
at_least case w nets varied ready = subst (λ (marks : List Bool). AreBothLifted nets (is_most_at marks) varied) ready.has_space.least_corner

-- and of nets that are put together again of both
moved : (nodes count : ℕ) (nets : GroundNets) (modest : AreModestNetworks nets.least.network nets.most.network) (solving : SolveWorkspace) →
    CanSolveBoth nodes count nets solving → CanSolveBoth nodes count (the_nets nets.least nets.most modest) solving
moved nodes count nets modest solving can = solved_again nodes count nets modest solving can

-- in units there are as many intervals
in_units_space : (nodes : ℕ) (varied : VariedPotentials) (reference : List Ends) → AreVariedOf nodes varied → length reference ≡ length varied.reference →
    AreVariedOf (length reference) (record varied { reference = reference })
in_units_space nodes varied reference h same = record {
  reference_count = refl;
  lowering_count = h.lowering_count ∙ sym (same ∙ h.reference_count);
  raising_count = h.raising_count ∙ sym (same ∙ h.reference_count);
}

pub solve_reference-requires-clause-ready : goal.solve_reference-requires-clause-ready
solve_reference-requires-clause-ready c =
    subst (λ (n : Network). CanSolve n.nodes (length n.list) c.args.self.now.nets.least c.args.self.now.solving)
    (sym c.requires.ready.has_space.elements) c.requires.ready.can_solve.least

pub solve_reference-requires-2-clause-ready : goal.solve_reference-requires-2-clause-ready
solve_reference-requires-2-clause-ready c =
    c.solve_reference.ensures.still c.args.self.now.nets.least
    (subst (λ (n : Network). CanSolve n.nodes (length n.list) c.args.self.now.nets.least c.args.self.now.solving)
    (sym c.requires.ready.has_space.elements) c.requires.ready.can_solve.least)

pub solve_reference-requires-clause-space : goal.solve_reference-requires-clause-space
solve_reference-requires-clause-space c =
    subst (λ (n : Network). HasReferenceSpace n.nodes (length c.args.case.now.transformers) c.args.self.now.north)
    (sym c.requires.ready.has_space.elements) c.requires.ready.has_space.north_space

pub solve_reference-requires-2-clause-space : goal.solve_reference-requires-2-clause-space
solve_reference-requires-2-clause-space c =
    subst (λ (n : Network). HasReferenceSpace n.nodes (length c.args.case.now.transformers) c.args.self.now.east)
    (sym c.requires.ready.has_space.elements) c.requires.ready.has_space.east_space

pub returns-clause-referred : goal.returns-clause-referred
returns-clause-referred c quiet_north quiet_east = record {
  north_grains = c.solve_reference.new.out.potentials.reference;
  east_grains = c.solve_reference-2.new.out.potentials.reference;
  in_north = record {
    limit = c.within_limit.ensures;
    no_ground = quiet_north;
    certain = c.solve_reference.ensures.solved.certain;
    tight = c.solve_reference.ensures.solved.tight;
    rounded = c.lift_both.ensures.reference ∙ c.in_units.ensures.rounded;
    own = c.solve_reference.ensures.solved.own;
    lifted = at_least c.args.case.now c.args.self.now _ c.lift_both.new.out c.requires.ready c.lift_both.ensures.lifted;
  };
  in_east = record {
    limit = c.within_limit-2.ensures;
    no_ground = quiet_east;
    certain = c.solve_reference-2.ensures.solved.certain;
    tight = c.solve_reference-2.ensures.solved.tight;
    rounded = c.lift_both-2.ensures.reference ∙ c.in_units-2.ensures.rounded;
    own = c.solve_reference-2.ensures.solved.own;
    lifted = at_least c.args.case.now c.args.self.now _ c.lift_both-2.new.out c.requires.ready c.lift_both-2.ensures.lifted;
  };
  least_unit = c.potential_unit-unit.ensures.least;
}

pub returns-clause-references : goal.returns-clause-references
returns-clause-references c = record {
  small_unit = record { some = c.potential_unit-unit.ensures.least.above_0; small = c.potential_unit-unit.ensures.small };
  north_within = c.lift_both.ensures.lifted.within;
  east_within = c.lift_both-2.ensures.lifted.within;
  own_north = c.solve_reference.ensures.solved.own_within;
  own_east = c.solve_reference-2.ensures.solved.own_within;
}

pub lift_both-requires-clause-ready : goal.lift_both-requires-clause-ready
lift_both-requires-clause-ready c =
    let w = c.args.self.now in
    let space = c.requires.ready.has_space in
    let nodes = ap (λ (n : Network). n.nodes) space.elements in
    recounted_both (elements_of c.args.case.now).nodes (length (elements_of c.args.case.now).list) _ _ _ c.solve_reference-2.new.solving
    (c.in_units.ensures.count ∙ c.solve_reference.ensures.space.varied_count.reference_count ∙ nodes) space.adjoint_space.volt_count
    (moved _ _ w.nets _ c.solve_reference-2.new.solving
    (after_references c.args.case.now w c.solve_reference.new.solving c.solve_reference-2.new.solving c.requires.ready
    c.solve_reference.ensures.still c.solve_reference-2.ensures.still))

pub lift_both-requires-clause-units : goal.lift_both-requires-clause-units
lift_both-requires-clause-units c = c.in_units.ensures.within MOST_UNITS c.potential_unit-unit.ensures.least.in_north

pub lift_both-requires-clause-space : goal.lift_both-requires-clause-space
lift_both-requires-clause-space c =
    in_units_space c.args.self.now.elements.nodes c.solve_reference.new.out.potentials c.in_units.new.self
    c.solve_reference.ensures.space.varied_count c.in_units.ensures.count

pub lift_both-requires-2-clause-ready : goal.lift_both-requires-2-clause-ready
lift_both-requires-2-clause-ready c =
    let w = c.args.self.now in
    let space = c.requires.ready.has_space in
    let nodes = ap (λ (n : Network). n.nodes) space.elements in
    recounted_both (elements_of c.args.case.now).nodes (length (elements_of c.args.case.now).list) _ _ _ c.lift_both.new.solving
    (c.in_units-2.ensures.count ∙ c.solve_reference-2.ensures.space.varied_count.reference_count ∙ nodes)
    (c.lift_both.ensures.volts ∙ space.adjoint_space.volt_count)
    (moved _ _ w.nets _ c.lift_both.new.solving
    (both_still _ _ _ _ w.nets c.solve_reference-2.new.solving c.lift_both.new.solving
    (c.in_units.ensures.count ∙ c.solve_reference.ensures.space.varied_count.reference_count ∙ nodes) space.adjoint_space.volt_count
    c.lift_both.ensures.still
    (after_references c.args.case.now w c.solve_reference.new.solving c.solve_reference-2.new.solving c.requires.ready
    c.solve_reference.ensures.still c.solve_reference-2.ensures.still)))

pub lift_both-requires-2-clause-units : goal.lift_both-requires-2-clause-units
lift_both-requires-2-clause-units c = c.in_units-2.ensures.within MOST_UNITS c.potential_unit-unit.ensures.least.in_east

pub lift_both-requires-2-clause-space : goal.lift_both-requires-2-clause-space
lift_both-requires-2-clause-space c =
    in_units_space c.args.self.now.elements.nodes c.solve_reference-2.new.out.potentials c.in_units-2.new.self
    c.solve_reference-2.ensures.space.varied_count c.in_units-2.ensures.count

pub returns-clause-ready : goal.returns-clause-ready
returns-clause-ready c =
    let w = c.args.self.now in
    let space = c.requires.ready.has_space in
    let nodes = ap (λ (n : Network). n.nodes) space.elements in
    let north_nodes = c.in_units.ensures.count ∙ c.solve_reference.ensures.space.varied_count.reference_count ∙ nodes in
    let east_nodes = c.in_units-2.ensures.count ∙ c.solve_reference-2.ensures.space.varied_count.reference_count ∙ nodes in
    let volts = c.lift_both.ensures.volts ∙ space.adjoint_space.volt_count in
    let referred = after_references c.args.case.now w c.solve_reference.new.solving c.solve_reference-2.new.solving c.requires.ready
    c.solve_reference.ensures.still c.solve_reference-2.ensures.still in
    let lifted = both_still _ _ _ _ w.nets c.solve_reference-2.new.solving c.lift_both.new.solving north_nodes
    space.adjoint_space.volt_count c.lift_both.ensures.still referred in
    let can = both_still _ _ _ _ w.nets c.lift_both.new.solving c.lift_both-2.new.solving east_nodes volts c.lift_both-2.ensures.still lifted in
    record {
      has_space = record {
        elements = space.elements;
        nets = subst (λ (n : GroundNets). AreNetsFor c.args.case.now n) (together_again _ _ w.nets.modest _) space.nets;
        solving = can.most.has_space;
        adjoint_space = record { volt_count = c.lift_both-2.ensures.volts ∙ volts; adjoint_count = space.adjoint_space.adjoint_count };
        north_space = record {
          own_count = c.solve_reference.ensures.space.own_count;
          varied_count = subst (λ n. AreVariedOf n c.lift_both.new.out) north_nodes c.lift_both.ensures.space;
        };
        east_space = record {
          own_count = c.solve_reference-2.ensures.space.own_count;
          varied_count = subst (λ n. AreVariedOf n c.lift_both-2.new.out) east_nodes c.lift_both-2.ensures.space;
        };
        least_corner = space.least_corner;
        corner_space = subst (λ (n : GroundNets). HasCornerSpace (elements_of c.args.case.now).nodes (length c.args.case.now.transformers) n w.at_corner)
            (together_again _ _ w.nets.modest _) space.corner_space;
      };
      solvable = c.requires.ready.solvable;
      can_solve = solved_again _ _ w.nets _ _ can;
    }

pub returns-clause-nets : goal.returns-clause-nets
returns-clause-nets c = together_again _ _ _ c.args.self.now.nets.modest
