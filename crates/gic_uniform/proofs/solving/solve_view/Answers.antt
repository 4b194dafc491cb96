use Rattle.std.proofs.Common.{arith}
use Rattle.gic_model.specs.Voltages.{number_at}
use Rattle.gic_net.specs.Net.{stands}
use Rattle.gic_uniform.proofs.SmallEnds.{view_small}
use Rattle.gic_uniform.proofs.solving.solve_view.Goals as goal

pub fill_view-requires-clause-together : goal.fill_view-requires-clause-together
fill_view-requires-clause-together c = record { a_volt_each = c.requires.volts; a_potential_each = c.solve.ensures.space.potentials }

pub returns-clause-solved : goal.returns-clause-solved
returns-clause-solved c =
    let right = c.fill_view.ensures.right (λ s solves k live. (c.solve.ensures.solved.certain k).live live s solves) in
    let narrow = c.fill_view.ensures.narrow _ c.args.width (omega (arith, c.requires.width.least)) c.solve.ensures.solved.sharp in
    record {
      right = right;
      narrow = narrow;
      small = view_small c.existence_law.ensures c.potential_law.ensures c.args.case.now c.args.net.now.network (stands c.args.net.now) (number_at c.args.volts.now)
          c.args.width c.fill_view.new.out c.keeps_rules.ensures c.within_limits.ensures c.requires.ready.solvable c.within_limit.ensures c.requires.width.most right narrow;
    }
