use Rattle.std.proofs.Common.{map, ap, arith, subst, ◌∙◌}
use Rattle.gic_model.specs.Voltages.{number_at}
use Rattle.gic_net.specs.Net.{standing, stands}
use Rattle.gic_uniform.specs.declared.solve_workspace.SolveWorkspace.{SolveWorkspace}
use Rattle.gic_uniform.specs.Ready.{IsSolveWorkspaceFor}
use Rattle.gic_varied.specs.Certified.{in_units}
use Rattle.gic_grounds.specs.Corner.{is_most_at}
use Rattle.gic_grounds.specs.Lifting.{height_at}
use Rattle.gic_grounds.specs.Varying.{most_lift}
use Rattle.gic_grounds.proofs.ReachedEnds.{kept_within}
use Rattle.gic_grounds.proofs.Solving.{still_solves}
use Rattle.gic_grounds.proofs.WideLifts.{lifts_reach}
use Rattle.gic_grounds.proofs.reference.lift.Goals as goal

pub solve_wide-requires-clause-can : goal.solve_wide-requires-clause-can
solve_wide-requires-clause-can c =
    let net = c.args.nets.now.most in
    let volts = number_at c.fill_lifts.new.out in
    let reaches = lifts_reach c.args.nets.now (height_at (is_most_at c.args.corner.now) c.args.side c.args.reference.now) volts c.existence_law.ensures c.reach_law.ensures.lifts
    c.within_limits.ensures c.within_limits-2.ensures c.requires.ready.extremes c.requires.ready.most.earthed c.fill_lifts.ensures.limit c.fill_lifts.ensures.lifts in
    record {
      driven = c.drive_law.ensures.solved net.network (stands net) volts reaches.solution c.within_limits-2.ensures reaches.solves reaches.within;
      bound = c.requires.ready.most.bound;
    }

pub returns-clause-lifted : goal.returns-clause-lifted
returns-clause-lifted c = record {
  volts = number_at c.fill_lifts.new.out;
  grains = c.solve_wide.new.self.potentials;
  lifts = c.fill_lifts.ensures.lifts;
  certain = c.solve_wide.ensures.solved.certain;
  tight = c.solve_wide.ensures.tight;
  rounded = c.in_units.ensures.rounded ∙ ap (map (in_units 1)) c.keep.ensures.same;
}

pub returns-clause-within : goal.returns-clause-within
returns-clause-within c =
    let volts = number_at c.fill_lifts.new.out in
    let reaches = lifts_reach c.args.nets.now (height_at (is_most_at c.args.corner.now) c.args.side c.args.reference.now) volts c.existence_law.ensures c.reach_law.ensures.lifts
    c.within_limits.ensures c.within_limits-2.ensures c.requires.ready.extremes c.requires.ready.most.earthed c.fill_lifts.ensures.limit c.fill_lifts.ensures.lifts in
    c.in_units.ensures.within most_lift
    (kept_within (standing c.args.nets.now.most) volts c.solve_wide.new.self.potentials c.keep.new.self _ reaches c.solve_wide.ensures.solved.certain c.solve_wide.ensures.tight c.keep.ensures.same (omega arith))

pub returns-clause-still : goal.returns-clause-still
returns-clause-still c =
    still_solves _ _ c.args.solving.now c.solve_wide.new.self
    (subst (λ n. IsSolveWorkspaceFor n c.solve_wide.new.self) c.requires.ready.most.node_count c.solve_wide.ensures.space)
    (ap (λ (w : SolveWorkspace). w.vector) c.solve_wide.ensures.rest)
