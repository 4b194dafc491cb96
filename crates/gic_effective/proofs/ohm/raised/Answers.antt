use Rattle.std.proofs.Common.{pos, negsuc, ℤ, ◌≡◌, ◌*ℤ◌, ◌≤ℤ◌, arith, rules, ◌∙◌}
use Rattle.std.proofs.lemmas.Int.{ints}
use Rattle.std.specs.Int.{int_min, int_max}
use Rattle.gic_fixed.proofs.Enclosures.{scale_low, scale_high}
use Rattle.gic_effective.proofs.ohm.raised.Goals as goal

low_of : (lo hi k : ℤ) → pos 0 ≤ℤ k → lo ≤ℤ hi → int_min (lo *ℤ k) (hi *ℤ k) ≡ k *ℤ lo
low_of lo hi (pos n) h o = scale_low lo hi n o
low_of lo hi (negsuc n) h o = absurd (omega (arith, ints))

high_of : (lo hi k : ℤ) → pos 0 ≤ℤ k → lo ≤ℤ hi → int_max (lo *ℤ k) (hi *ℤ k) ≡ k *ℤ hi
high_of lo hi (pos n) h o = scale_high lo hi n o
high_of lo hi (negsuc n) h o = absurd (omega (arith, ints))

pub returns-clause-low : goal.returns-clause-low
returns-clause-low c =
    let low : c.scale.result.lo ≡ int_min (c.args.drive.lo *ℤ c.args.factor) (c.args.drive.hi *ℤ c.args.factor) = search (rules, c.scale.ensures.low) in
    low ∙ low_of c.args.drive.lo c.args.drive.hi c.args.factor c.requires.factor.0 c.args.drive.ordered

pub returns-clause-high : goal.returns-clause-high
returns-clause-high c =
    let high : c.scale.result.hi ≡ int_max (c.args.drive.lo *ℤ c.args.factor) (c.args.drive.hi *ℤ c.args.factor) = search (rules, c.scale.ensures.high) in
    high ∙ high_of c.args.drive.lo c.args.drive.hi c.args.factor c.requires.factor.0 c.args.drive.ordered
