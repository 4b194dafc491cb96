use Rattle.std.proofs.Common.{◌≡◌, ◌<◌, ◌≤◌, ◌+◌, ◌*◌, length, take, get_or, ℤ, pos, ◌+ℤ◌, unsigned_abs, FitsSigned, w64, to_z, of_z, rules, arith, ap₂, sym, ◌∙◌}
use Rattle.std.proofs.lemmas.Int.{fits_signed_from_abs}
use Rattle.std.proofs.lemmas.List.Sums.{sum_by_more, sum_by_more_le}
use Rattle.gic_fixed.specs.Sums.{sum_of}
use Rattle.gic_case.specs.declared.part.LinePart.{LinePart}
use Rattle.gic_case.specs.Courses.{north_way, east_way}
use Rattle.gic_induce.specs.LineVolts.{part_volts}
use Rattle.gic_induce.proofs.Parts.{sum_more, few_more}
use Rattle.gic_induce.proofs.voltage.line_volts.Goals as goal

pub loop-part-preserved : goal.loop-part-preserved
loop-part-preserved c =
    let parts = c.parts-part-items.result.now in
    let i = c.loop-part.part-index in
    let none : LinePart = record { zone = 0; north = pos 0; east = pos 0 } in
    let within : i < length parts = c.loop-part-test.true in
    let volts : LinePart → ℤ = part_volts c.args.zones.now c.args.fields.now in
    let sum = to_z w64 c.loop-part.nanovolts-bits in
    let part = c.volts_of_part-nanovolts.result in
    let so_far : sum ≡ sum_of volts (take i parts) = c.loop-part.invariant.sum in
    let here : part ≡ volts (get_or parts i none) = c.volts_of_part-nanovolts.ensures.value in
    let summed : sum +ℤ part ≡ sum_of volts (take (i + 1) parts) = ap₂ (λ y z. y +ℤ z) so_far here ∙ sym (sum_more volts parts i none within) in
    let north = sum_by_more (λ (p : LinePart). unsigned_abs p.north) parts i none within in
    let east = sum_by_more (λ (p : LinePart). unsigned_abs p.east) parts i none within in
    let few : unsigned_abs (sum +ℤ part) ≤ 30000000 * (north_way (take (i + 1) parts) + east_way (take (i + 1) parts)) =
    few_more sum part _ _ _ _ _ _ c.loop-part.invariant.small c.volts_of_part-nanovolts.ensures.small north east in
    let north_most = sum_by_more_le (λ (p : LinePart). unsigned_abs p.north) parts i none within in
    let east_most = sum_by_more_le (λ (p : LinePart). unsigned_abs p.east) parts i none within in
    let north_all : north_way parts ≤ 1000000 = rw c.parts-part-items.ensures c.requires.north in
    let east_all : east_way parts ≤ 1000000 = rw c.parts-part-items.ensures c.requires.east in
    let fits : FitsSigned w64 (sum +ℤ part) = fits_signed_from_abs w64 (sum +ℤ part) (omega (arith, few, north, east, north_most, east_most, north_all, east_all)) in
    let same : to_z w64 (of_z w64 (sum +ℤ to_z w64 (of_z w64 part))) ≡ sum +ℤ part = search (rules, fits) in
    record {
      sum = same ∙ summed;
      small = rw same few;
    }
