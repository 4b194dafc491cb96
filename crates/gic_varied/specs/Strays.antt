-- The stray power of a ground in exact numbers: Y P' times what the conductance of the varied ground is above that of the reference's, which its range bounds.
use Rattle.std.specs.Prelude.{ℕ, ◌≡◌, ◌-◌, ◌*◌, ◌<◌, ◌⊎◌, ℤ, pos, neg_ℤ, ◌-ℤ◌, ◌*ℤ◌, ◌≤ℤ◌}
use Rattle.gic_varied.specs.Ranges.{Range, IsInRange}
use Rattle.gic_varied.specs.Varied.{IsOhmWithin}

-- where Y P' isn't below 0: from w (1/most - 1/R) to w (1/least - 1/R) times Y P'
pub record IsStrayUp (range : Range) (w ohm : ℕ) (product stray : ℤ) : Type 0 where
  pub sign : pos 0 ≤ℤ product
  pub low : neg_ℤ (pos (w * (range.most - ohm)) *ℤ product) ≤ℤ (pos (range.most * ohm) *ℤ stray)
  pub high : (pos (range.least * ohm) *ℤ stray) ≤ℤ (pos (w * (ohm - range.least)) *ℤ product)

-- where it isn't above 0: the other way round
pub record IsStrayDown (range : Range) (w ohm : ℕ) (product stray : ℤ) : Type 0 where
  pub sign : product ≤ℤ pos 0
  pub low : (pos (w * (ohm - range.least)) *ℤ product) ≤ℤ (pos (range.least * ohm) *ℤ stray)
  pub high : (pos (range.most * ohm) *ℤ stray) ≤ℤ neg_ℤ (pos (w * (range.most - ohm)) *ℤ product)

-- either way
abbrev pub IsStrayWithin : Range → (w ohm : ℕ) → (product stray : ℤ) → Type 0
IsStrayWithin range w ohm product stray = IsStrayUp range w ohm product stray ⊎ IsStrayDown range w ohm product stray

-- at a ground of R micro-ohm of its range in the reference, with the current z of the adjoint potential y there, and a varied current c at the potential p
abbrev pub StrayPowersAreBounded : Type 0
StrayPowersAreBounded = (range : Range) (w ohm : ℕ) (c p y z : ℤ) → 0 < w → IsInRange range ohm →
    pos ohm *ℤ z ≡ pos w *ℤ y → IsOhmWithin range (pos w *ℤ p) c → IsStrayWithin range w ohm (y *ℤ p) (y *ℤ c -ℤ z *ℤ p)
