use Rattle.std.proofs.Common.{arith}
use Rattle.std.proofs.Math.Nat.{le-mul_of_pos_right}
use Rattle.gic_fixed.proofs.long.one_more.Goals as goal

pub overflow_add-result : goal.overflow_add-result
overflow_add-result c = record { fits = omega (arith, c.requires, le-mul_of_pos_right c.args.digit.quotient c.requires.some) }
