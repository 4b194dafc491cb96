-- What intervals show where the potentials that they are made of hold every solution, and where these are sharp.
use Rattle.std.specs.Prelude.{ℕ, ◌≡◌, ◌+◌, Option, None, Some, List, IsFalse, ℤ, pos}
use Rattle.gic_base.specs.declared.id.ElementId.{ElementId}
use Rattle.gic_case.specs.Lists.{Lists}
use Rattle.gic_enclose.specs.Ends.{high_at, low_at}
use Rattle.gic_fixed.specs.Encloses.{Encloses}
use Rattle.gic_model.specs.Sharp.{IsSharp}
use Rattle.gic_model.specs.Solution.{Solution, IsSolution}
use Rattle.gic_model.specs.Standing.{is_standing}
use Rattle.gic_model.specs.Sums.{Placed}
use Rattle.gic_view.specs.Bounds.{FitsView}
use Rattle.gic_view.specs.View.{View}
use Rattle.gic_fixed.specs.Ends.{Ends, IsAtMostWide}
use Rattle.gic_effective.specs.Holds.{HoldsSolution, HoldsSolutions}
use Rattle.gic_effective.specs.Milli.{IsMilliAtMostWide}
use Rattle.gic_effective.specs.Narrow.{IsNoWider}
use Rattle.gic_effective.specs.RightView.{IsRightNode, IsRightElement, IsRightEffective}

-- the potentials are sharp for this width
abbrev pub AreSharp : List Placed → (ℕ → ℤ) → List Ends → ℕ → Type 0
AreSharp standing volts potentials width = IsSharp standing volts (low_at potentials) (high_at potentials) width

-- an element's current in nA, how wide it is in mA, and that it is 0 alone where the element doesn't stand
pub record IsShownCurrent (standing : List Placed) (volts : ℕ → ℤ) (potentials : List Ends) (place : ℕ) (lo hi : ℤ) : Type 0 where
  pub holds : (s : Solution) → IsSolution standing volts s → HoldsSolution standing potentials s → Encloses lo hi (s.current place) s.denominator
  pub narrow : (width : ℕ) → AreSharp standing volts potentials width → IsMilliAtMostWide width lo hi
  pub zeroed : IsFalse (is_standing standing place) → (lo ≡ pos 0) × (hi ≡ pos 0)

-- the same of a winding, and the point 0 where there is none
abbrev pub IsShownWinding : List Placed → (ℕ → ℤ) → List Ends → Option (ElementId × ℕ) → ℤ → ℤ → Type 0
IsShownWinding standing volts potentials None lo hi = (lo ≡ pos 0) × (hi ≡ pos 0)
IsShownWinding standing volts potentials (Some winding) lo hi = IsShownCurrent standing volts potentials winding.0.0 lo hi

-- the interval of a node in a view
pub record IsShownNode (standing : List Placed) (volts : ℕ → ℤ) (potentials : List Ends) (k : ℕ) (interval : Option Ends) : Type 0 where
  pub right : HoldsSolutions standing volts potentials → IsRightNode standing volts k interval
  pub narrow : (width : ℕ) → AreSharp standing volts potentials width → IsNoWider width interval

-- that of an element
pub record IsShownElement (standing : List Placed) (volts : ℕ → ℤ) (potentials : List Ends) (place : ℕ) (interval : Option Ends) : Type 0 where
  pub right : HoldsSolutions standing volts potentials → IsRightElement standing volts place interval
  pub narrow : (width : ℕ) → AreSharp standing volts potentials width → IsNoWider width interval

-- that of a transformer, which is rounded outward once more and so may be one wider
pub record IsShownEffective (c : Lists) (standing : List Placed) (volts : ℕ → ℤ) (potentials : List Ends) (t : ℕ) (ends : Ends) : Type 0 where
  pub right : HoldsSolutions standing volts potentials → IsRightEffective c standing volts t ends
  pub narrow : (width : ℕ) → AreSharp standing volts potentials width → IsAtMostWide (width + 1) ends.low ends.high
  pub small : FitsView ends

-- the two views are of one step: number and time are the same
pub record IsSameStep (one other : View) : Type 0 where
  pub number : other.number ≡ one.number
  pub time : other.time ≡ one.time
