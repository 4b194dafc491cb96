use Rattle.std.proofs.Common.{arith}
use Rattle.std.proofs.lemmas.Int.{ints}
use Rattle.gic_superpose.proofs.superposing.times.Goals as goal

pub invariant_of-result : goal.invariant_of-result
invariant_of-result c = record { ordered = omega (arith, ints, c.min.ensures.self_bound, c.max.ensures.self_bound, c.min.type_inv, c.max.type_inv) }
