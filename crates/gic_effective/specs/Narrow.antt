-- Views whose intervals are at most so wide.
use Rattle.std.specs.Prelude.{ℕ, ◌<◌, Option, None, Some, length}
use Rattle.gic_case.specs.Lists.{Lists, node_names}
use Rattle.gic_view.specs.View.{View, node_at, element_at, effective_at}
use Rattle.gic_fixed.specs.Ends.{Ends, IsAtMostWide}
use Rattle.gic_winding.specs.ElementList.{elements_of}
use Rattle.gic_effective.specs.ViewLengths.{HasViewLengths}

-- an interval that may be missing is at most this wide
abbrev pub IsNoWider : ℕ → Option Ends → Type 0
IsNoWider width None = Unit {0}
IsNoWider width (Some ends) = IsAtMostWide width ends.low ends.high

-- the view is one of the case, and none of its intervals is wider than this
pub record IsNarrowView (case : Lists) (width : ℕ) (view : View) : Type 0 where
  pub lengths : HasViewLengths case view
  pub nodes : (k : ℕ) → k < length (node_names case) → IsNoWider width (node_at view k)
  pub elements : (place : ℕ) → place < length (elements_of case).list → IsNoWider width (element_at view place)
  pub effective : (t : ℕ) → t < length case.transformers → IsNoWider width (Some (effective_at view t))
