-- What the theorems of starts say.
use Rattle.std.specs.Prelude.{ℕ, ◌+◌, ◌==◌, ◌↔◌, Bool, if◌then◌else◌}
use Rattle.gic_base.specs.declared.limits.TheConstants.{FULL_WALK}
use Rattle.gic_model.specs.declared.parts.Item.{Item}
use Rattle.gic_model.specs.Network.{Network}
use Rattle.gic_model.specs.Limits.{IsWithinLimits}
use Rattle.gic_model.specs.Standing.{standing_elements}
use Rattle.gic_model.specs.Bound.{IsCappedVector, IsLeastCappedVector}
use Rattle.gic_bound.specs.Raising.{IsUnderCapped, IsTooSmall}
use Rattle.gic_bound.specs.Starting.{IsInRange, KeepsShifts, lowered, IsHeld, IsHeldAlone}

-- the entries, and one more at the node k
abbrev pub raised_at : ℕ → (ℕ → ℕ) → ℕ → ℕ
raised_at k v j = if j == k then v j + 1 else v j

-- raising an entry that is too small keeps every shift
abbrev pub RaisesKeepShifts : Type 0
RaisesKeepShifts = (network : Network) (stands : Item → Bool) (v : ℕ → ℕ) (k : ℕ) →
    let standing = standing_elements network stands in
    IsWithinLimits network → IsTooSmall standing (λ j. FULL_WALK) v k → KeepsShifts standing v (raised_at k v)

-- a vector to which the one less can be raised is at no node above any capped vector
abbrev pub ShiftsLeadUnder : Type 0
ShiftsLeadUnder = (network : Network) (stands : Item → Bool) (v : ℕ → ℕ) →
    let standing = standing_elements network stands in
    IsInRange standing v → KeepsShifts standing (lowered standing 1 v) v → IsUnderCapped standing v

-- so is a vector that is held alone
abbrev pub HeldAloneIsUnder : Type 0
HeldAloneIsUnder = (network : Network) (stands : Item → Bool) (v : ℕ → ℕ) →
    let standing = standing_elements network stands in
    IsWithinLimits network → IsInRange standing v → IsHeldAlone standing v → IsUnderCapped standing v

-- a capped vector is held alone exactly where it is the least one
abbrev pub HeldAloneIsLeast : Type 0
HeldAloneIsLeast = (network : Network) (stands : Item → Bool) (v : ℕ → ℕ) →
    let standing = standing_elements network stands in
    IsWithinLimits network → IsCappedVector standing v → (IsHeldAlone standing v ↔ IsLeastCappedVector standing v)

-- what is held from a vector in range up to a capped vector is capped: so sinking leads from capped vectors to capped vectors
abbrev pub HeldIsCapped : Type 0
HeldIsCapped = (network : Network) (stands : Item → Bool) (low v w : ℕ → ℕ) →
    let standing = standing_elements network stands in
    IsWithinLimits network → IsInRange standing low → IsCappedVector standing v → IsHeld standing low v w → IsCappedVector standing w
