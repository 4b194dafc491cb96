use Rattle.std.proofs.Common.{ℕ, IsTrue, arith, ◌∙◌}
use Rattle.gic_model.specs.Standing.{is_standing}
use Rattle.gic_model.specs.Voltages.{number_at}
use Rattle.gic_net.specs.Net.{standing}
use Rattle.gic_superpose.specs.Pairs.{zone_of}
use Rattle.gic_superpose.specs.Superposed.{ZoneEnds}
use Rattle.gic_base_views.specs.BaseRows.{IsCertifiedPair}
use Rattle.gic_base_views.proofs.Certified.{standing_inside}
use Rattle.gic_base_views.proofs.Written.{IsWritten, next_written, others_stay}
use Rattle.gic_base_views.proofs.writing.write_elements.Goals as goal

pub loop-place-preserved : goal.loop-place-preserved
loop-place-preserved c =
    let i = c.loop-place.invariant in
    let s = standing c.args.net.now in
    let north = number_at c.args.north.now.volts in
    let east = number_at c.args.east.now.volts in
    let zone = c.args.zone in
    let at = c.loop-place.place in
    let old = c.loop-place.rows in
    let new = c.set.new.self in
    let pair = zone_of c.element_pair-pair.result in
    let is : IsWritten zone at pair old new = record { written = c.set.ensures.set; others = c.set.ensures.others } in
    record {
      certified = next_written (λ (k : ℕ) (p : ZoneEnds). IsTrue (is_standing s k) → IsCertifiedPair s north east (λ s. s.current k) 1 p) zone at pair old new
          (omega (arith, c.requires.zone, i.shape.zone_count)) is i.certified c.element_pair-pair.ensures.certified;
      others = others_stay zone at pair c.args.rows.now old new i.shape.zone_count i.others is;
      shape = record { place_count = c.set.ensures.shape.place_count ∙ i.shape.place_count; zone_count = c.set.ensures.shape.zone_count ∙ i.shape.zone_count };
    }

pub returns-clause-certified : goal.returns-clause-certified
returns-clause-certified c k is =
    c.loop-place.invariant.certified k (omega (arith, c.loop-place-test.false, c.loop-place.auto.place-end, c.count-place-end.ensures.value, standing_inside c.args.net.now k is)) is
