-- What the theorems say of solutions.
use Rattle.std.specs.Prelude.{◌≡◌, ℕ, ◌*◌, ◌≤◌, Bool, ℤ, pos, ◌+ℤ◌, ◌*ℤ◌, unsigned_abs}
use Rattle.gic_base.specs.declared.limits.TheConstants.{MOST_WALK}
use Rattle.gic_model.specs.declared.parts.Item.{Item}
use Rattle.gic_model.specs.Network.{Network}
use Rattle.gic_model.specs.Limits.{IsWithinLimits, most_volts, AreVolts}
use Rattle.gic_model.specs.Standing.{IsLive, standing_elements}
use Rattle.gic_model.specs.Solution.{Solution, IsSolution}
use Rattle.gic_model.specs.Earthing.{AreEarthed}
use Rattle.gic_model.specs.Bound.{IsEarthedWithin}

-- c times the one solution and d times the other, over the product of their denominators
abbrev pub combined : ℤ → Solution → ℤ → Solution → Solution
combined c one d other = record {
  potential = λ m. c *ℤ (pos other.denominator *ℤ one.potential m) +ℤ d *ℤ (pos one.denominator *ℤ other.potential m);
  current = λ p. c *ℤ (pos other.denominator *ℤ one.current p) +ℤ d *ℤ (pos one.denominator *ℤ other.current p);
  denominator = one.denominator * other.denominator;
}

-- c times a solution for the one voltages and d times one for the others solve the network for c times the one voltages and d times the others
abbrev pub SolutionsCombine : Type 0
SolutionsCombine = (network : Network) (stands : Item → Bool) (volts1 volts2 : ℕ → ℤ) (one other : Solution) (c d : ℤ) →
    let standing = standing_elements network stands in
    IsSolution standing volts1 one → IsSolution standing volts2 other →
    IsSolution standing (λ p. c *ℤ volts1 p +ℤ d *ℤ volts2 p) (combined c one d other)

-- where the network is earthed within `MOST_WALK`, no live node's potential is above `MOST_WALK` times the greatest voltage, either way
abbrev pub PotentialsAreBounded : Type 0
PotentialsAreBounded = (network : Network) (stands : Item → Bool) (volts : ℕ → ℤ) (s : Solution) (k : ℕ) →
    let standing = standing_elements network stands in
    IsWithinLimits network → IsEarthedWithin standing MOST_WALK → AreVolts volts → IsSolution standing volts s → IsLive standing k →
    unsigned_abs (s.potential k) ≤ MOST_WALK * most_volts * s.denominator

-- where each live node is earthed, any two solutions have the same potential at each live node
abbrev pub PotentialsAgree : Type 0
PotentialsAgree = (network : Network) (stands : Item → Bool) (volts : ℕ → ℤ) (one other : Solution) (k : ℕ) →
    let standing = standing_elements network stands in
    IsWithinLimits network → AreEarthed standing →
    IsSolution standing volts one → IsSolution standing volts other → IsLive standing k →
    one.potential k *ℤ pos other.denominator ≡ other.potential k *ℤ pos one.denominator
