use Rattle.std.proofs.Common.{◌≤◌, ◌^◌, ℤ, unsigned_abs, arith, sym, subst}
use Rattle.gic_fixed.proofs.Enclosures.{Encloses-div_out}
use Rattle.gic_effective.proofs.Currents.{Encloses-same, floor_small, ceil_small}
use Rattle.gic_effective.proofs.current.milli.Goals as goal

pub returns-clause-holds : goal.returns-clause-holds
returns-clause-holds c n d e = Encloses-same _ _ _ _ n _ c.div_out.ensures.low c.div_out.ensures.high (Encloses-div_out c.args.interval.lo c.args.interval.hi n d 1000000 (omega arith) e)

pub returns-clause-small : goal.returns-clause-small
returns-clause-small c within = record {
  low = subst (λ (z : ℤ). unsigned_abs z ≤ 2 ^ 54) (sym c.div_out.ensures.low) (floor_small c.args.interval.lo 1000000 (2 ^ 54) (omega arith) (omega (arith, within.low)));
  high = subst (λ (z : ℤ). unsigned_abs z ≤ 2 ^ 54) (sym c.div_out.ensures.high) (ceil_small c.args.interval.hi 1000000 (2 ^ 54) (omega arith) (omega (arith, within.high)));
}
