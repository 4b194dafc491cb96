use Rattle.std.proofs.Common.{map, ap, arith, subst, ◌∙◌}
use Rattle.gic_model.specs.Voltages.{number_at}
use Rattle.gic_net.specs.Net.{standing, stands}
use Rattle.gic_uniform.specs.declared.solve_workspace.SolveWorkspace.{SolveWorkspace}
use Rattle.gic_uniform.specs.Ready.{IsSolveWorkspaceFor}
use Rattle.gic_varied.specs.Certified.{in_units}
use Rattle.gic_grounds.specs.declared.unit.TheConstants.{ADJOINT_UNIT}
use Rattle.gic_grounds.specs.Varying.{most_adjoint}
use Rattle.gic_grounds.proofs.ReachedEnds.{kept_within}
use Rattle.gic_grounds.proofs.Solving.{still_solves}
use Rattle.gic_grounds.proofs.WideWeights.{weights_reach}
use Rattle.gic_grounds.proofs.adjoint.adjoin.Goals as goal

pub solve_wide-requires-clause-can : goal.solve_wide-requires-clause-can
solve_wide-requires-clause-can c =
    let net = c.args.net.now in
    let volts = number_at c.fill_weights.new.out in
    let reaches = weights_reach net c.args.case.now c.args.transformer c.args.unit volts c.existence_law.ensures c.reach_law.ensures.potentials c.reach_law.ensures.listed c.keeps_rules.ensures
    c.within_limits.ensures c.requires.place c.requires.ready.earthed c.fill_weights.ensures.weights in
    record {
      driven = c.drive_law.ensures.solved net.network (stands net) volts reaches.solution c.within_limits.ensures reaches.solves reaches.within;
      bound = c.requires.ready.bound;
    }

pub returns-clause-adjoined : goal.returns-clause-adjoined
returns-clause-adjoined c =
    let net = c.args.net.now in
    let volts = number_at c.fill_weights.new.out in
    let reaches = weights_reach net c.args.case.now c.args.transformer c.args.unit volts c.existence_law.ensures c.reach_law.ensures.potentials c.reach_law.ensures.listed c.keeps_rules.ensures
    c.within_limits.ensures c.requires.place c.requires.ready.earthed c.fill_weights.ensures.weights in
    record {
      weights = volts;
      grains = c.solve_wide.new.self.potentials;
      by_weights = c.fill_weights.ensures.weights;
      no_ground = c.fill_weights.ensures.no_ground;
      certain = c.solve_wide.ensures.solved.certain;
      tight = c.solve_wide.ensures.tight;
      rounded = c.in_units.ensures.rounded ∙ ap (map (in_units ADJOINT_UNIT)) c.keep.ensures.same;
      within = c.in_units.ensures.within most_adjoint
          (kept_within (standing net) volts c.solve_wide.new.self.potentials c.keep.new.self _ reaches c.solve_wide.ensures.solved.certain c.solve_wide.ensures.tight c.keep.ensures.same (omega arith));
    }

pub returns-clause-still : goal.returns-clause-still
returns-clause-still c =
    still_solves _ _ c.args.solving.now c.solve_wide.new.self
    (subst (λ n. IsSolveWorkspaceFor n c.solve_wide.new.self) c.requires.ready.node_count c.solve_wide.ensures.space)
    (ap (λ (w : SolveWorkspace). w.vector) c.solve_wide.ensures.rest)
