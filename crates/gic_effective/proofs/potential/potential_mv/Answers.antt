use Rattle.std.proofs.Common.{◌≡◌, ◌*◌, ◌≤◌, ◌^◌, ℤ, pos, unsigned_abs, arith, rules, ap, sym, subst}
use Rattle.gic_fixed.specs.Rounding.{floor_div, ceil_div}
use Rattle.gic_model.specs.Sharp.{millivolt}
use Rattle.gic_enclose.specs.Ends.{low_at, high_at}
use Rattle.gic_effective.proofs.Currents.{Encloses-same, potential_holds, floor_small, ceil_small}
use Rattle.gic_effective.proofs.potential.potential_mv.Goals as goal

low : (c : goal.After-div_out) → c.div_out.result.lo ≡ floor_div (low_at c.args.potentials.now c.args.node.0) (pos millivolt)
low c = search rules

high : (c : goal.After-div_out) → c.div_out.result.hi ≡ ceil_div (high_at c.args.potentials.now c.args.node.0) (pos millivolt)
high c = search rules

pub returns-clause-holds : goal.returns-clause-holds
returns-clause-holds c s e =
    let k = c.args.node.0 in
    let xs = c.args.potentials.now in
    Encloses-same c.div_out.result.lo c.div_out.result.hi _ _ (s.potential k) (1000000 * s.denominator) (low c) (high c) (potential_holds (low_at xs k) (high_at xs k) (s.potential k) s.denominator e)

pub returns-clause-small : goal.returns-clause-small
returns-clause-small c =
    let k = c.args.node.0 in
    let xs = c.args.potentials.now in
    let one = ap unsigned_abs c.get.ensures.low in
    let other = ap unsigned_abs c.get.ensures.high in
    record {
      low = subst (λ (z : ℤ). unsigned_abs z ≤ 2 ^ 41) (sym (low c)) (floor_small (low_at xs k) (1000000 * 2 ^ 36) (2 ^ 41) (omega arith) (omega (arith, one, c.get.ensures.small.low)));
      high = subst (λ (z : ℤ). unsigned_abs z ≤ 2 ^ 41) (sym (high c)) (ceil_small (high_at xs k) (1000000 * 2 ^ 36) (2 ^ 41) (omega arith) (omega (arith, other, c.get.ensures.small.high)));
    }
