use Rattle.std.proofs.Common.{◌≡◌, ◌∙◌, length, map, arith, ap}
use Rattle.gic_review.specs.PartSizes.{part_size}
use Rattle.gic_review.proofs.PartSizesBy.{sized}
use Rattle.gic_review.proofs.WrittenBack.{written_back}
use Rattle.gic_review.proofs.findings.parts.sizes.Goals as goal

pub returns : goal.returns
returns c =
    let old = c.in_ok-sizes.sizes.items in
    let found = c.size_parts.new.counts in
    let len : length old ≡ c.in_ok-sizes.sizes.len = omega (arith, ap length c.deref_mut.ensures.value, c.deref_mut.ensures.len) in
    let same : length found ≡ length old = omega (arith, ap length c.deref_mut.ensures.value, c.size_parts.auto.counts) in
    written_back old found c.in_ok-sizes.sizes.len len same ∙ c.size_parts.ensures ∙ ap (map part_size) c.deref_mut.ensures.value
    ∙ sized c.args.firsts.now old c.in_ok-sizes.ensures.count c.in_ok-sizes.ensures.counted
