use Rattle.std.proofs.Common.{ap₂, sym, subst₂, ◌≤ℤ◌, ◌*◌, ◌^◌, ℤ}
use Rattle.gic_fixed.specs.Encloses.{IsWithin}
use Rattle.gic_fixed.specs.Ends.{ends_of}
use Rattle.gic_grounds.specs.VariedEnds.{ends_seen}
use Rattle.gic_grounds.proofs.Quotients.{both_ends, least_product, greatest_product, products_within, products_ordered}
use Rattle.gic_grounds.proofs.stray.product.Goals as goal

pub invariant_of-result : goal.invariant_of-result
invariant_of-result c =
    let low = least_product (ends_of c.args.one.now) (ends_seen c.args.other.now) c.requires.one c.requires.other c.min.result
    c.min-2.result c.min-3.result c.min.ensures.value c.min-2.ensures.value c.min-3.ensures.value in
    let high = greatest_product (ends_of c.args.one.now) (ends_seen c.args.other.now) c.requires.one c.requires.other c.max.result
    c.max-2.result c.max-3.result c.max.ensures.value c.max-2.ensures.value c.max-3.ensures.value in
    record { ordered = subst₂ (λ (x y : ℤ). x ≤ℤ y) (sym low) (sym high) (products_ordered (ends_of c.args.one.now) (ends_seen c.args.other.now) c.requires.one c.requires.other) }

pub returns-clause-value : goal.returns-clause-value
returns-clause-value c =
    let low = least_product (ends_of c.args.one.now) (ends_seen c.args.other.now) c.requires.one c.requires.other c.min.result
    c.min-2.result c.min-3.result c.min.ensures.value c.min-2.ensures.value c.min-3.ensures.value in
    let high = greatest_product (ends_of c.args.one.now) (ends_seen c.args.other.now) c.requires.one c.requires.other c.max.result
    c.max-2.result c.max-3.result c.max.ensures.value c.max-2.ensures.value c.max-3.ensures.value in
    ap₂ both_ends low high

pub returns-clause-small : goal.returns-clause-small
returns-clause-small c =
    let low = least_product (ends_of c.args.one.now) (ends_seen c.args.other.now) c.requires.one c.requires.other c.min.result
    c.min-2.result c.min-3.result c.min.ensures.value c.min-2.ensures.value c.min-3.ensures.value in
    let high = greatest_product (ends_of c.args.one.now) (ends_seen c.args.other.now) c.requires.one c.requires.other c.max.result
    c.max-2.result c.max-3.result c.max.ensures.value c.max-2.ensures.value c.max-3.ensures.value in
    subst₂ (λ (x y : ℤ). IsWithin (5 * 2 ^ 113) x y) (sym low) (sym high)
    (products_within (ends_of c.args.one.now) (ends_seen c.args.other.now) c.requires.one c.requires.other)
