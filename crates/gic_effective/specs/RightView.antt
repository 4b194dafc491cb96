-- What a right view shows, its number and its time aside.
use Rattle.std.specs.Prelude.{◌≡◌, ℕ, ◌*◌, ◌<◌, Option, None, Some, List, All, length, IsFalse, IsTrue, ℤ}
use Rattle.gic_case.specs.Lists.{Lists, node_names}
use Rattle.gic_fixed.specs.Encloses.{Encloses}
use Rattle.gic_fixed.specs.Ends.{Ends, zero_ends}
use Rattle.gic_model.specs.Standing.{IsLive, is_live, is_standing}
use Rattle.gic_model.specs.Solution.{Solution, IsSolution}
use Rattle.gic_model.specs.Sums.{Placed}
use Rattle.gic_view.specs.View.{View, node_at, element_at, effective_at}
use Rattle.gic_winding.specs.ElementList.{elements_of}
use Rattle.gic_winding.specs.Weights.{weighted_windings}
use Rattle.gic_effective.specs.ViewLengths.{HasViewLengths}
use Rattle.gic_effective.specs.Weighted.{effective_numerator, effective_denominator}

-- none exactly where the node is dead, and else one that holds its potential in mV in every solution
abbrev pub IsRightNode : List Placed → (ℕ → ℤ) → ℕ → Option Ends → Type 0
IsRightNode standing volts k None = IsFalse (is_live standing k)
IsRightNode standing volts k (Some ends) =
    IsLive standing k × ((s : Solution) → IsSolution standing volts s → Encloses ends.low ends.high (s.potential k) (1000000 * s.denominator))

-- none exactly where the element doesn't stand, and else one that holds its current in mA in every solution
abbrev pub IsRightElement : List Placed → (ℕ → ℤ) → ℕ → Option Ends → Type 0
IsRightElement standing volts place None = IsFalse (is_standing standing place)
IsRightElement standing volts place (Some ends) =
    IsTrue (is_standing standing place) × ((s : Solution) → IsSolution standing volts s → Encloses ends.low ends.high (s.current place) (1000000 * s.denominator))

-- none of the transformer's windings that stand has a weight
abbrev pub HasNoEffect : Lists → List Placed → ℕ → Type 0
HasNoEffect case standing t = All (λ winding. IsTrue (is_standing standing winding.0.0) → winding.1 ≡ 0) (weighted_windings case t)

-- one that holds the transformer's signed effective current in mA per phase in every solution, and 0 alone where no winding that stands has a weight
pub record IsRightEffective (case : Lists) (standing : List Placed) (volts : ℕ → ℤ) (t : ℕ) (ends : Ends) : Type 0 where
  pub holds : (s : Solution) → IsSolution standing volts s →
      Encloses ends.low ends.high (effective_numerator case s t) (effective_denominator case t s)
  pub zeroed : HasNoEffect case standing t → ends ≡ zero_ends

-- the view has a place for each node, element and transformer of the case, and what stands there is right for these standing elements and voltages
pub record IsRightView (case : Lists) (standing : List Placed) (volts : ℕ → ℤ) (view : View) : Type 0 where
  pub lengths : HasViewLengths case view
  pub nodes : (k : ℕ) → k < length (node_names case) → IsRightNode standing volts k (node_at view k)
  pub elements : (place : ℕ) → place < length (elements_of case).list → IsRightElement standing volts place (element_at view place)
  pub effective : (t : ℕ) → t < length case.transformers → IsRightEffective case standing volts t (effective_at view t)
