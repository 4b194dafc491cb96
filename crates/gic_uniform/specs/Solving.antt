-- What a solve leaves.
use Rattle.std.specs.Prelude.{ℕ, ◌<◌, ◌^◌, List, length, ℤ}
use Rattle.gic_case.specs.Lists.{Lists}
use Rattle.gic_effective.specs.Narrow.{IsNarrowView}
use Rattle.gic_effective.specs.RightView.{IsRightView}
use Rattle.gic_fixed.specs.Encloses.{IsWithin}
use Rattle.gic_model.specs.Sums.{Placed}
use Rattle.gic_view.specs.View.{View, effective_at}

-- no effective current of the view is beyond 2^52 mA per phase
abbrev pub IsSmallView : Lists → View → Type 0
IsSmallView case view = (t : ℕ) → t < length case.transformers → IsWithin (2 ^ 52) (effective_at view t).low (effective_at view t).high

-- each interval of the view holds what it stands for in every solution and is no wider than this, and no effective current is beyond 2^52 mA per phase
pub record IsSolvedView (case : Lists) (standing : List Placed) (volts : ℕ → ℤ) (width : ℕ) (view : View) : Type 0 where
  pub right : IsRightView case standing volts view
  pub narrow : IsNarrowView case width view
  pub small : IsSmallView case view
