use Rattle.std.proofs.Common.{ℕ, arith, ◌∙◌}
use Rattle.gic_model.proofs.Ends.{live_within, standing_within}
use Rattle.gic_model.specs.Standing.{IsLive}
use Rattle.gic_model.specs.Voltages.{number_at}
use Rattle.gic_net.specs.Net.{standing, stands}
use Rattle.gic_superpose.specs.Pairs.{zone_of}
use Rattle.gic_superpose.specs.Superposed.{ZoneEnds}
use Rattle.gic_base_views.specs.BaseRows.{IsCertifiedPair}
use Rattle.gic_base_views.proofs.Written.{IsWritten, next_written, others_stay}
use Rattle.gic_base_views.proofs.writing.write_nodes.Goals as goal

pub loop-node-preserved : goal.loop-node-preserved
loop-node-preserved c =
    let i = c.loop-node.invariant in
    let s = standing c.args.net.now in
    let north = number_at c.args.north.now.volts in
    let east = number_at c.args.east.now.volts in
    let zone = c.args.zone in
    let at = c.loop-node.node in
    let old = c.loop-node.rows in
    let new = c.set.new.self in
    let pair = zone_of c.node_pair-pair.result in
    let is : IsWritten zone at pair old new = record { written = c.set.ensures.set; others = c.set.ensures.others } in
    record {
      certified = next_written (λ (k : ℕ) (p : ZoneEnds). IsLive s k → IsCertifiedPair s north east (λ s. s.potential k) 1 p) zone at pair old new
          (omega (arith, c.requires.zone, i.shape.zone_count)) is i.certified c.node_pair-pair.ensures.certified;
      others = others_stay zone at pair c.args.rows.now old new i.shape.zone_count i.others is;
      shape = record { place_count = c.set.ensures.shape.place_count ∙ i.shape.place_count; zone_count = c.set.ensures.shape.zone_count ∙ i.shape.zone_count };
    }

pub returns-clause-certified : goal.returns-clause-certified
returns-clause-certified c k live =
    let net = c.args.net.now in
    let inside = live_within net.network.nodes (standing net) k (standing_within net.network (stands net) c.nodes-node-end.ensures.limits) live in
    c.loop-node.invariant.certified k (omega (arith, c.loop-node-test.false, c.loop-node.auto.node-end, c.nodes-node-end.ensures.value, inside)) live
