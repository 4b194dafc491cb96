use Rattle.std.proofs.Common.{ℕ, arith, ◌∙◌}
use Rattle.gic_model.specs.Voltages.{number_at}
use Rattle.gic_net.specs.Net.{standing}
use Rattle.gic_superpose.specs.Pairs.{zone_of}
use Rattle.gic_superpose.specs.Superposed.{ZoneEnds}
use Rattle.gic_base_views.specs.BaseRows.{IsCertifiedEffective}
use Rattle.gic_base_views.proofs.Written.{IsWritten, next_written, others_stay}
use Rattle.gic_base_views.proofs.writing.write_effective.Goals as goal

pub loop-transformer-preserved : goal.loop-transformer-preserved
loop-transformer-preserved c =
    let i = c.loop-transformer.invariant in
    let s = standing c.args.net.now in
    let north = number_at c.args.north.now.volts in
    let east = number_at c.args.east.now.volts in
    let zone = c.args.zone in
    let at = c.loop-transformer.transformer in
    let old = c.loop-transformer.rows in
    let new = c.set.new.self in
    let pair = zone_of c.effective_pair-pair.result in
    let is : IsWritten zone at pair old new = record { written = c.set.ensures.set; others = c.set.ensures.others } in
    record {
      certified = next_written (λ (t : ℕ) (p : ZoneEnds). IsCertifiedEffective c.args.case.now s north east t p) zone at pair old new
          (omega (arith, c.requires.zone, i.shape.zone_count)) is i.certified c.effective_pair-pair.ensures.certified;
      others = others_stay zone at pair c.args.rows.now old new i.shape.zone_count i.others is;
      shape = record { place_count = c.set.ensures.shape.place_count ∙ i.shape.place_count; zone_count = c.set.ensures.shape.zone_count ∙ i.shape.zone_count };
    }
