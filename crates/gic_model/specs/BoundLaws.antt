-- What the theorems say of bound vectors and of sharp potentials.
use Rattle.std.specs.Prelude.{ℕ, ◌≤◌, List, ℤ}
use Rattle.gic_base.specs.declared.limits.TheConstants.{MOST_WALK}
use Rattle.gic_model.specs.Bound.{IsBoundVector, IsCappedVector, IsEarthedWithin}
use Rattle.gic_model.specs.Sharp.{IsSharp}
use Rattle.gic_model.specs.Sums.{Placed}

-- a capped vector without an entry `FULL_WALK` is a bound vector
abbrev pub CappedIsBound : Type 0
CappedIsBound = (standing : List Placed) (v : ℕ → ℕ) → IsCappedVector standing v → ((k : ℕ) → v k ≤ MOST_WALK) → IsBoundVector standing v

-- and then the network is earthed within `MOST_WALK`
abbrev pub CappedIsEarthed : Type 0
CappedIsEarthed = (standing : List Placed) (v : ℕ → ℕ) → IsCappedVector standing v → ((k : ℕ) → v k ≤ MOST_WALK) → IsEarthedWithin standing MOST_WALK

-- potentials that are sharp for a width are sharp for a greater one
abbrev pub SharpIsSharpWider : Type 0
SharpIsSharpWider = (standing : List Placed) (volts low high : ℕ → ℤ) (width wider : ℕ) →
    IsSharp standing volts low high width → width ≤ wider → IsSharp standing volts low high wider
