use Rattle.std.proofs.Common.{◌≡◌, ◌+◌, pos, arith, rules}
use Rattle.std.specs.Int.{w128}
use Rattle.std.proofs.lemmas.Int.{ints, to_z_pos, fits_signed_from_abs}
use Rattle.gic_criteria.specs.Worst.{square_of}
use Rattle.gic_criteria.proofs.Worsts.{ceil_root_small, ceil_root_signed}
use Rattle.gic_criteria.proofs.orientation.ceil_length.Goals as goal

pub overflow_cast-result : goal.overflow_cast-result
overflow_cast-result c =
    let small = ceil_root_small _ _ c.isqrt_ceil.ensures (omega (arith, c.square.ensures.small, c.square-2.ensures.small)) in
    fits_signed_from_abs w128 (pos c.isqrt_ceil.result) (omega (arith, ints))

pub returns-clause-sign : goal.returns-clause-sign
returns-clause-sign c =
    let small = ceil_root_small _ _ c.isqrt_ceil.ensures (omega (arith, c.square.ensures.small, c.square-2.ensures.small)) in
    omega (arith, ints)

pub returns-clause-root : goal.returns-clause-root
returns-clause-root c =
    let one : c.square.result ≡ square_of c.args.a = search (rules, c.square.ensures.value) in
    let other : c.square-2.result ≡ square_of c.args.b = search (rules, c.square-2.ensures.value) in
    let small = ceil_root_small _ _ c.isqrt_ceil.ensures (omega (arith, c.square.ensures.small, c.square-2.ensures.small)) in
    ceil_root_signed _ (square_of c.args.a + square_of c.args.b) _ _ (omega (arith, one, other)) (to_z_pos w128 c.isqrt_ceil.result (omega arith)) c.isqrt_ceil.ensures
