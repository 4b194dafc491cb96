use Rattle.std.proofs.Common.{◌≤◌, ◌^◌, arith}
use Rattle.gic_model.specs.Voltages.{number_at}
use Rattle.gic_model.proofs.Ends.{standing_within}
use Rattle.gic_net.specs.Net.{standing, stands}
use Rattle.gic_enclose.specs.Ends.{low_at, high_at}
use Rattle.gic_sweep.proofs.Closeness.{settled_more}
use Rattle.gic_enclose.proofs.Widths.{narrow_is_sharp}
use Rattle.gic_enclose.proofs.solving.solve_wide.Goals as goal

pub returns-clause-solved : goal.returns-clause-solved
returns-clause-solved g c =
    let net = c.args.net.now in
    let volts = number_at c.args.volts.now in
    let x = number_at c.settle_wide.new.solver in
    let more : 2 ^ 18 ≤ 2 ^ 29 = omega arith in
    record {
      certain = c.enclose_wide.ensures.certain;
      sharp = narrow_is_sharp net.network.nodes volts (low_at c.enclose_wide.new.out) (high_at c.enclose_wide.new.out) c.args.width c.requires.width
          (c.enclose_wide.ensures.narrow (λ k live. settled_more (standing net) volts x k (2 ^ 18) (2 ^ 29) more (c.settle_wide.ensures.settled k live))) (standing net) (standing_within net.network (stands net) c.within_limits.ensures);
    }
