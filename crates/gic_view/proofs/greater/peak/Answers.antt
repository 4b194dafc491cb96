use Rattle.std.proofs.Common.{◌≡◌, arith, rules}
use Rattle.std.specs.Int.{int_max}
use Rattle.std.proofs.lemmas.Int.{ints, clamps}
use Rattle.gic_view.proofs.greater.peak.Goals as goal

pub new-requires : goal.new-requires
new-requires c =
    let low : c.max.result ≡ int_max c.args.a.lo c.args.b.lo = search (rules, c.max.ensures.value) in
    let high : c.max-2.result ≡ int_max c.args.a.hi c.args.b.hi = search (rules, c.max-2.ensures.value) in
    omega (arith, ints, clamps, c.max.type_inv, c.max-2.type_inv)
