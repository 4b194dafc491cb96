use Rattle.std.proofs.Common.{◌≡◌, ℕ, ◌+◌, ◌<◌, ◌≤◌, ◌++◌, Option, IfSome, get_or, length, refl, ap, sym, subst, ◌∙◌, arith}
use Rattle.std.specs.Prelude.{slice_get}
use Rattle.std.specs.Option.{option_to_list}
use Rattle.gic_base.specs.declared.id.ElementId.{ElementId}
use Rattle.gic_case.specs.Windings.{windings_of}
use Rattle.gic_winding.specs.ElementList.{elements_of}
use Rattle.gic_winding.specs.Order.{weighted_from}
use Rattle.gic_winding.proofs.Limits.{within_limits}
use Rattle.gic_case.proofs.SoundWindings.{few_windings}
use Rattle.gic_winding.proofs.Weighted.{IsThere, is_there, inside_by, value_there, whole_of_three, length-weighted_from, turn_inside}
use Rattle.gic_winding.proofs.effective.effective_weights.Goals as goal

-- a case has no more elements than the limit
pub first_winding-requires : goal.first_winding-requires
first_winding-requires c = omega (arith, ap length c.requires.elements, (within_limits c.args.case.now c.transformers.ensures.sound).few_elements)

pub weights_from-requires : goal.weights_from-requires
weights_from-requires c =
    omega (arith, c.first_winding.ensures.inside, ap length c.requires.elements, (within_limits c.args.case.now c.transformers.ensures.sound).few_elements)

-- what is known of the place and the row
there : (c : goal.After-weights_from) → IsThere c.args.case.now (elements_of c.args.case.now) c.args.transformer c.first_winding.result c.index-transformers-transformer.result
there c = is_there c.args.case.now (elements_of c.args.case.now) c.args.transformer c.first_winding.result c.index-transformers-transformer.result c.requires.place refl
    (λ prefix suffix whole. c.first_winding.ensures.parted prefix suffix (c.requires.elements ∙ whole))
    (c.index-transformers-transformer.is ∙ ap (λ ts. get_or ts c.args.transformer c.index-transformers-transformer.result) c.transformers.ensures.value)

pub returns-clause-value : goal.returns-clause-value
returns-clause-value c =
    value_there c.args.case.now (elements_of c.args.case.now) c.args.transformer c.first_winding.result c.index-transformers-transformer.result c.weights_from.result (there c)
    c.weights_from.ensures.first c.weights_from.ensures.second c.weights_from.ensures.third c.weights_from.ensures.high_volts

-- three windings at most
all_there : (c : goal.After-weights_from) → weighted_from c.index-transformers-transformer.result c.first_winding.result ≡
    option_to_list c.weights_from.result.first ++ (option_to_list c.weights_from.result.second ++ option_to_list c.weights_from.result.third)
all_there c =
    let row = c.index-transformers-transformer.result in
    let first = c.first_winding.result in
    let few : length (weighted_from row first) ≤ 3 = omega (arith, length-weighted_from row first, few_windings row.high_volts row.kind) in
    rw (c.weights_from.ensures.first, c.weights_from.ensures.second, c.weights_from.ensures.third) (whole_of_three (weighted_from row first) few)

pub returns-clause-all : goal.returns-clause-all
returns-clause-all c = (there c).windings ∙ all_there c

-- each of them is inside
one_inside : (c : goal.After-weights_from) (turn : ℕ) (w : Option (ElementId × ℕ)) → w ≡ slice_get (weighted_from c.index-transformers-transformer.result c.first_winding.result) turn → IfSome w (λ x. x.0.0 < length c.args.elements.now)
one_inside c turn w is =
    let row = c.index-transformers-transformer.result in
    let first = c.first_winding.result in
    inside_by w (first + length (windings_of row)) (length c.args.elements.now) (omega (arith, (there c).fit, ap length c.requires.elements))
    (subst (λ o. IfSome o (λ x. x.0.0 < first + length (windings_of row))) (sym is) (turn_inside row first turn))

pub returns-clause-first_inside : goal.returns-clause-first_inside
returns-clause-first_inside c = one_inside c 0 c.weights_from.result.first c.weights_from.ensures.first

pub returns-clause-second_inside : goal.returns-clause-second_inside
returns-clause-second_inside c = one_inside c 1 c.weights_from.result.second c.weights_from.ensures.second

pub returns-clause-third_inside : goal.returns-clause-third_inside
returns-clause-third_inside c = one_inside c 2 c.weights_from.result.third c.weights_from.ensures.third
