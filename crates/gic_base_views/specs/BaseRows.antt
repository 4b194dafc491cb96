-- Intervals of all that a view shows in the base fields of each zone, and that they are certified for a network.
use Rattle.std.specs.Prelude.{ℕ, ◌≡◌, ◌*◌, ◌<◌, List, length, IsTrue, ℤ}
use Rattle.gic_case.specs.Lists.{Lists}
use Rattle.gic_model.specs.Solution.{Solution}
use Rattle.gic_model.specs.Standing.{IsLive, is_standing}
use Rattle.gic_model.specs.Sums.{Placed}
use Rattle.gic_winding.specs.ElementList.{elements_of}
use Rattle.gic_winding.specs.Weights.{transformer_at}
use Rattle.gic_effective.specs.Weighted.{effective_numerator}
use Rattle.gic_effective.specs.RightView.{HasNoEffect}
use Rattle.gic_superpose.specs.BaseFields.{north_volts, east_volts}
use Rattle.gic_superpose.specs.Superposed.{ZoneEnds, no_zone_ends, zone_at, IsNarrowZone}
use Rattle.gic_superpose.specs.Quantities.{HoldsInZone}

-- for each node, element and transformer a row with the two intervals of each zone, in nanovolts, nanoamperes and nanoamperes per phase
pub record BaseRows : Type 0 where
  pub nodes : ℕ → List ZoneEnds
  pub elements : ℕ → List ZoneEnds
  pub effective : ℕ → List ZoneEnds

-- two intervals, one to the north and one to the east, are narrow and hold the quantity, over `over` times the denominator, in every solution for these voltages
pub record IsCertifiedPair (standing : List Placed) (north east : ℕ → ℤ) (quantity : Solution → ℤ) (over : ℕ) (pair : ZoneEnds) : Type 0 where
  pub holds : HoldsInZone standing north east quantity over pair
  pub narrow : IsNarrowZone pair

-- those of a zone in a row are so for the voltages of the zone's base fields
abbrev pub IsCertifiedZone : Lists → List Placed → (Solution → ℤ) → (over zone : ℕ) → List ZoneEnds → Type 0
IsCertifiedZone case standing quantity over zone row =
    IsCertifiedPair standing (north_volts case (elements_of case).list zone) (east_volts case (elements_of case).list zone) quantity over (zone_at row zone)

-- the two intervals of a transformer are certified for the voltages of two base fields, and are 0 alone where no winding that stands has a weight
pub record IsCertifiedEffective (case : Lists) (standing : List Placed) (north east : ℕ → ℤ) (t : ℕ) (pair : ZoneEnds) : Type 0 where
  pub certified : IsCertifiedPair standing north east (λ s. effective_numerator case s t) (3 * (transformer_at case t).high_volts) pair
  pub zeroed : HasNoEffect case standing t → pair ≡ no_zone_ends

-- of one zone: the intervals are certified where something shows: live nodes, standing elements, and all transformers
pub record IsCertifiedIn (case : Lists) (standing : List Placed) (rows : BaseRows) (zone : ℕ) : Type 0 where
  pub nodes : (k : ℕ) → IsLive standing k → IsCertifiedZone case standing (λ s. s.potential k) 1 zone (rows.nodes k)
  pub elements : (place : ℕ) → IsTrue (is_standing standing place) → IsCertifiedZone case standing (λ s. s.current place) 1 zone (rows.elements place)
  pub effective : (t : ℕ) → t < length case.transformers →
      IsCertifiedEffective case standing (north_volts case (elements_of case).list zone) (east_volts case (elements_of case).list zone) t (zone_at (rows.effective t) zone)

-- so are those of each zone
abbrev pub AreCertifiedRows : Lists → List Placed → BaseRows → Type 0
AreCertifiedRows case standing rows = (zone : ℕ) → zone < length case.zones → IsCertifiedIn case standing rows zone
