use Rattle.std.proofs.Common.{◌^◌, arith}
use Rattle.gic_sweep.proofs.Quotients.{whole_most, least_up}
use Rattle.gic_sweep.proofs.reaching.quotient_up.Goals as goal

pub overflow_mul-result : goal.overflow_mul-result
overflow_mul-result c = record { fits = omega (arith, whole_most c.args.most c.args.conductance (2 ^ 87) c.requires.some c.requires.most) }

pub overflow_add-result : goal.overflow_add-result
overflow_add-result c =
    let least = least_up c.args.most c.args.conductance (2 ^ 99) c.requires.some (omega (arith, c.requires.most)) in
    record { fits = omega (arith, least, c.div_ceil.ensures) }

pub returns-clause-small : goal.returns-clause-small
returns-clause-small c =
    let least = least_up c.args.most c.args.conductance (2 ^ 99) c.requires.some (omega (arith, c.requires.most)) in
    omega (arith, least, c.div_ceil.ensures)

pub returns-clause-least : goal.returns-clause-least
returns-clause-least c = λ n h. let least = least_up c.args.most c.args.conductance n c.requires.some h in omega (arith, least, c.div_ceil.ensures)
