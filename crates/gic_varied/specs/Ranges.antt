-- Ranges of resistances: what a ground may have in place of what the case says.
use Rattle.std.specs.Prelude.{ℕ, ◌+◌, ◌-◌, ◌*◌, ◌/◌, ◌≤◌, ◌<◌, min, max, List, IsTrue}
use Rattle.std.specs.List.{All}
use Rattle.std.specs.Int.{div_ceil}
use Rattle.gic_model.specs.declared.parts.Element.{Element}
use Rattle.gic_model.specs.declared.parts.Item.{Item}
use Rattle.gic_model.specs.Sums.{Placed}
use Rattle.gic_varied.specs.Grounds.{is_ground}

-- from the least to the greatest resistance, in micro-ohm
pub record Range : Type 0 where
  pub least : ℕ
  pub most : ℕ

-- the range of a resistance with a tolerance in per cent, rounded outward, and within what a case can have
abbrev pub ground_range : (percent ohm : ℕ) → Range
ground_range percent ohm = record {
  least = max 1000 (ohm * (100 - percent) / 100);
  most = min 1000000000 (div_ceil (ohm * (100 + percent)) 100);
}

-- a range for each ground
abbrev pub Ranges : Type 0
Ranges = Element → Range

-- those of tolerances in per cent, one for each item
abbrev pub ranges_of : (Item → ℕ) → Ranges
ranges_of percent e = ground_range (percent e.item) e.micro_ohm

-- a resistance of the range, which begins above 0
pub record IsInRange (range : Range) (ohm : ℕ) : Type 0 where
  pub above_0 : 0 < range.least
  pub at_least : range.least ≤ ohm
  pub at_most : ohm ≤ range.most

-- each ground among these elements gets a resistance of its range
abbrev pub AreInRanges : Ranges → (Element → ℕ) → List Placed → Type 0
AreInRanges ranges ohm standing = All (λ p. IsTrue (is_ground p.1) → IsInRange (ranges p.1) (ohm p.1)) standing
