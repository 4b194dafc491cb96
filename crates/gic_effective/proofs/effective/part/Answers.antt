use Rattle.std.proofs.Common.{◌≡◌, ◌*◌, ◌^◌, ◌≤◌, ℕ, ℤ, pos, ◌*ℤ◌, ◌≤ℤ◌, unsigned_abs, to_z, arith, rules, ap, sym, ◌∙◌, Fits, w32}
use Rattle.std.specs.Int.{w128, int_min, int_max}
use Rattle.std.proofs.lemmas.Int.{to_z_pos, unsigned_abs-mul}
use Rattle.std.proofs.Math.Nat.{mul-le-mul}
use Rattle.gic_fixed.proofs.Enclosures.{scale_low, scale_high}
use Rattle.gic_effective.specs.Ohm.{most_current}
use Rattle.gic_effective.specs.WeightedSum.{weighted}
use Rattle.gic_effective.proofs.effective.part.Goals as goal

low_of : (lo hi : ℤ) (n : ℕ) → n ≤ 2 ^ 32 → lo ≤ℤ hi → int_min (lo *ℤ to_z w128 n) (hi *ℤ to_z w128 n) ≡ pos n *ℤ lo
low_of lo hi n h o = ap (λ k. int_min (lo *ℤ k) (hi *ℤ k)) (to_z_pos w128 n (omega arith)) ∙ scale_low lo hi n o

high_of : (lo hi : ℤ) (n : ℕ) → n ≤ 2 ^ 32 → lo ≤ℤ hi → int_max (lo *ℤ to_z w128 n) (hi *ℤ to_z w128 n) ≡ pos n *ℤ hi
high_of lo hi n h o = ap (λ k. int_max (lo *ℤ k) (hi *ℤ k)) (to_z_pos w128 n (omega arith)) ∙ scale_high lo hi n o

small_of : (z r : ℤ) (n : ℕ) → n ≤ 2 ^ 32 → unsigned_abs z ≤ most_current → r ≡ pos n *ℤ z → unsigned_abs r ≤ 2 ^ 112
small_of z r n h k e =
    let product : n * unsigned_abs z ≤ 2 ^ 32 * most_current = mul-le-mul h k in
    let parts = ap unsigned_abs e ∙ unsigned_abs-mul (pos n) z in
    omega arith

pub returns-in-Some-clause-low : goal.returns-in-Some-clause-low
returns-in-Some-clause-low c =
    let f : Fits w32 c.in-Some.weight = search rules in
    c.scale.ensures.low ∙ low_of c.args.current.lo c.args.current.hi c.in-Some.weight (omega (arith, f.fits)) c.args.current.ordered ∙ sym (ap (λ w. weighted w c.args.current.lo) c.in-Some.is)

pub returns-in-Some-clause-high : goal.returns-in-Some-clause-high
returns-in-Some-clause-high c =
    let f : Fits w32 c.in-Some.weight = search rules in
    c.scale.ensures.high ∙ high_of c.args.current.lo c.args.current.hi c.in-Some.weight (omega (arith, f.fits)) c.args.current.ordered ∙ sym (ap (λ w. weighted w c.args.current.hi) c.in-Some.is)

pub returns-in-Some-clause-small : goal.returns-in-Some-clause-small
returns-in-Some-clause-small c =
    let f : Fits w32 c.in-Some.weight = search rules in
    record {
      low = small_of c.args.current.lo c.scale.result.lo c.in-Some.weight (omega (arith, f.fits)) c.requires.small.low (c.scale.ensures.low ∙ low_of c.args.current.lo c.args.current.hi c.in-Some.weight (omega (arith, f.fits)) c.args.current.ordered);
      high = small_of c.args.current.hi c.scale.result.hi c.in-Some.weight (omega (arith, f.fits)) c.requires.small.high (c.scale.ensures.high ∙ high_of c.args.current.lo c.args.current.hi c.in-Some.weight (omega (arith, f.fits)) c.args.current.ordered);
    }
