use Rattle.std.proofs.Common.{◌≡◌, ◌∙◌, pos, arith, rules, ap, of_z}
use Rattle.std.proofs.lemmas.Int.{ints}
use Rattle.std.specs.Int.{int_div_euclid, int_rem_euclid, w128}
use Rattle.gic_fixed.proofs.Divisions.{ceil_same, ceil_next, next_fits}
use Rattle.gic_fixed.proofs.division.div_ceil.Goals as goal

pub returns-then-rem_euclid-eq0 : goal.returns-then-rem_euclid-eq0
returns-then-rem_euclid-eq0 c =
    let quotient : c.div_euclid-down.result ≡ int_div_euclid c.args.a c.args.d = search (rules, c.div_euclid-down.ensures) in
    let rest : c.rem_euclid.result ≡ int_rem_euclid c.args.a c.args.d = search (rules, c.rem_euclid.ensures.value) in
    let none : c.rem_euclid.result ≡ pos 0 = omega (arith, ints, c.if-rem_euclid-eq0.true, c.rem_euclid.ensures.lower_bound) in
    let same = ceil_same c.args.a c.args.d c.requires.positive (cc) in
    omega (arith, ints, c.div_euclid-down.type_inv)

pub returns-else-rem_euclid-eq0 : goal.returns-else-rem_euclid-eq0
returns-else-rem_euclid-eq0 c =
    let quotient : c.div_euclid-down.result ≡ int_div_euclid c.args.a c.args.d = search (rules, c.div_euclid-down.ensures) in
    let rest : c.rem_euclid.result ≡ int_rem_euclid c.args.a c.args.d = search (rules, c.rem_euclid.ensures.value) in
    let some : int_rem_euclid c.args.a c.args.d ≡ pos 0 → ⊥ = λ e. c.if-rem_euclid-eq0.false (ap (of_z w128) (rest ∙ e)) in
    let next = ceil_next c.args.a c.args.d c.requires.positive some in
    let fits = next_fits c.args.a c.args.d c.ranges.a c.requires.positive some in
    omega (arith, ints, c.div_euclid-down.type_inv, fits.sfits)
