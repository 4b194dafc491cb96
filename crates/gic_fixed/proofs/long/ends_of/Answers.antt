use Rattle.std.proofs.Common.{arith, ap, ◌∙◌, pos, ◌+ℤ◌, to_z, of_z}
use Rattle.std.specs.Int.{w128}
use Rattle.std.proofs.lemmas.Int.{to_z-of_z}
use Rattle.gic_fixed.proofs.Ceilings.{is_divided, for_multiple, for_others, for_space}
use Rattle.gic_fixed.proofs.long.ends_of.Goals as goal

pub returns-then-parts-rest_of_a_multiple-clause-high : goal.returns-then-parts-rest_of_a_multiple-clause-high
returns-then-parts-rest_of_a_multiple-clause-high c =
    let deep = c.depth.ensures in
    let parts = c.divided-parts.ensures in
    let over = c.rest_of_a_multiple.ensures in
    let low = c.on_side_of-low.ensures in
    let is = is_divided c.args.number (to_z-of_z w128 c.args.number c.ranges.number) (omega arith) (parts.whole, parts.rest) (deep.above, deep.below) (over.above, over.below) (low.above, low.below) in
    to_z-of_z w128 c.on_side_of-low.result (record { sfits = c.on_side_of-low.type_inv }) ∙ for_multiple _ _ _ _ _ _ is c.if-parts-rest_of_a_multiple.true

pub returns-else-parts-rest_of_a_multiple-clause-high : goal.returns-else-parts-rest_of_a_multiple-clause-high
returns-else-parts-rest_of_a_multiple-clause-high c =
    let deep = c.depth.ensures in
    let parts = c.divided-parts.ensures in
    let over = c.rest_of_a_multiple.ensures in
    let low = c.on_side_of-low.ensures in
    let is = is_divided c.args.number (to_z-of_z w128 c.args.number c.ranges.number) (omega arith) (parts.whole, parts.rest) (deep.above, deep.below) (over.above, over.below) (low.above, low.below) in
    let no = c.if-parts-rest_of_a_multiple.false in
    let kept = to_z-of_z w128 c.on_side_of-low.result (record { sfits = c.on_side_of-low.type_inv }) in
    let sum = to_z-of_z w128 _ (for_space _ _ _ _ _ _ is no c.ranges.number) in
    for_others _ _ _ _ _ _ _ is no (ap (λ k. to_z w128 (of_z w128 (k +ℤ pos 1))) kept ∙ sum)
