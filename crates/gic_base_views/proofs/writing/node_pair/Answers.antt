use Rattle.gic_model.specs.Voltages.{number_at}
use Rattle.gic_net.specs.Net.{standing}
use Rattle.gic_base_views.proofs.writing.node_pair.Goals as goal

pub returns-clause-certified : goal.returns-clause-certified
returns-clause-certified c live =
    let s = standing c.args.net.now in
    let north = c.requires.north in
    let east = c.requires.east in
    record {
      holds = record {
        to_north = c.base_potential.ensures.holds s (number_at c.args.north.now.volts) north.holds live;
        to_east = c.base_potential-2.ensures.holds s (number_at c.args.east.now.volts) east.holds live;
      };
      narrow = record { north = c.base_potential.ensures.narrow north.tight; east = c.base_potential-2.ensures.narrow east.tight };
    }
