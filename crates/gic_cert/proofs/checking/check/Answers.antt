use Rattle.std.proofs.Common.{refl}
use Rattle.gic_model.proofs.Ends.{standing_within}
use Rattle.gic_net.specs.Net.{standing, stands}
use Rattle.gic_cert.proofs.Passing.{bound_vector}
use Rattle.gic_cert.proofs.checking.check.Goals as goal

pub returns-clause-passes : goal.returns-clause-passes
returns-clause-passes c =
    let net = c.args.net.now in
    let rows = c.in_default.ensures.none in (
      λ _. record {
        placed = c.requires.nodes;
        vector = bound_vector net.network.nodes (standing net) (standing_within net.network (stands net) c.within_limits.ensures) c.args.cert.now c.within_ranges.ensures c.requires.nodes rows;
        residuals = c.in_default-first_great_residual.ensures.none;
        radii = c.in_default-first_wrong_radius.ensures.none;
      },
      λ _. refl,
    )
