-- The interval that holds a weighted current of every varied solution, from intervals of a reference, of the lifts and of the adjoint solution.
use Rattle.std.specs.Prelude.{ℕ, ◌-◌, ◌*◌, ◌<◌, Bool, List, IsTrue, ℤ, pos, neg_ℤ, ◌+ℤ◌, ◌-ℤ◌, ◌*ℤ◌, ◌≤ℤ◌}
use Rattle.std.specs.List.{All}
use Rattle.std.specs.Int.{int_min, int_max}
use Rattle.gic_fixed.specs.Encloses.{Encloses}
use Rattle.gic_fixed.specs.Ends.{Ends}
use Rattle.gic_fixed.specs.Rounding.{floor_div, ceil_div}
use Rattle.gic_model.specs.declared.parts.Element.{Element}
use Rattle.gic_model.specs.declared.parts.Item.{Item}
use Rattle.gic_model.specs.Network.{Network}
use Rattle.gic_model.specs.Limits.{IsWithinLimits}
use Rattle.gic_model.specs.Standing.{standing_elements}
use Rattle.gic_model.specs.Solution.{Solution, IsSolution}
use Rattle.gic_model.specs.Sums.{Placed, sum_of}
use Rattle.gic_varied.specs.Grounds.{is_ground, grounds_among, HaveNoGroundVolts, with_grounds}
use Rattle.gic_varied.specs.Ranges.{Range, Ranges, IsInRange, AreInRanges}
use Rattle.gic_varied.specs.Varied.{IsVaried}
use Rattle.gic_varied.specs.Reciprocal.{current_by_weights}
use Rattle.gic_varied.specs.Lifts.{IsLift, IsRaisedAtMost, IsLoweredAtMost}

-- the voltage of a lift over this height at a ground of this range: (most - least) / least of it, rounded away from 0, and 0 where it is below 0
abbrev pub lift_volt : Range → (high : ℤ) → ℤ
lift_volt range high = neg_ℤ (ceil_div (pos (range.most - range.least) *ℤ int_max high (pos 0)) (pos range.least))

-- the interval of a varied potential: a reference's, lowered by one lift and raised by another
abbrev pub varied_ends : (reference lowering raising : Ends) → Ends
varied_ends reference lowering raising = record { low = reference.low -ℤ lowering.high; high = reference.high +ℤ raising.high }

-- the interval of the products of the numbers of two intervals
abbrev pub product_ends : (one other : Ends) → Ends
product_ends one other = record {
  low = int_min (int_min (other.low *ℤ one.low) (other.high *ℤ one.low)) (int_min (other.low *ℤ one.high) (other.high *ℤ one.high));
  high = int_max (int_max (other.low *ℤ one.low) (other.high *ℤ one.low)) (int_max (other.low *ℤ one.high) (other.high *ℤ one.high));
}

-- the interval of a ground's stray power in units: of d Y P' for Y P' in the product's interval and d from the conductance of the greatest resistance to that of the least, less that of the ground's own
abbrev pub stray_ends : Range → (paths ohm unit : ℕ) → (product : Ends) → Ends
stray_ends range paths ohm unit product = record {
  low =
      int_min
      (floor_div (neg_ℤ (pos (paths * 1000000 * (range.most - ohm)) *ℤ product.high)) (pos (range.most * ohm * unit)))
      (floor_div (pos (paths * 1000000 * (ohm - range.least)) *ℤ product.low) (pos (range.least * ohm * unit)));
  high =
      int_max
      (ceil_div (neg_ℤ (pos (paths * 1000000 * (range.most - ohm)) *ℤ product.low)) (pos (range.most * ohm * unit)))
      (ceil_div (pos (paths * 1000000 * (ohm - range.least)) *ℤ product.high) (pos (range.least * ohm * unit)));
}

-- that of a ground at its place
abbrev pub stray_at : Ranges → (Element → ℕ) → (unit : ℕ) → (products : Placed → Ends) → Placed → Ends
stray_at ranges ohm unit products p = stray_ends (ranges p.1) p.1.times (ohm p.1) unit (products p)

-- the interval of a weighted current: the reference's own, and those of all grounds
abbrev pub enclosure_of : List Placed → Ranges → (Element → ℕ) → (unit : ℕ) → (products : Placed → Ends) → (own : Ends) → Ends
enclosure_of standing ranges ohm unit products own = record {
  low = own.low +ℤ sum_of (λ p. (stray_at ranges ohm unit products p).low) (grounds_among standing);
  high = own.high +ℤ sum_of (λ p. (stray_at ranges ohm unit products p).high) (grounds_among standing);
}

-- the product's interval at each ground holds Y P' in units of `over`
abbrev pub HoldProducts : List Placed → (over : ℕ) → (products : Placed → Ends) → (varied adjoint : Solution) → Type 0
HoldProducts standing over products varied adjoint =
    All (λ p. IsTrue (is_ground p.1) →
    Encloses (products p).low (products p).high (adjoint.potential p.1.from.0 *ℤ varied.potential p.1.from.0) (over * (adjoint.denominator * varied.denominator))) standing

-- where they do, and the own interval holds the reference's weighted current in units of `unit * over`, the enclosure holds that of every varied solution
abbrev pub EnclosuresHold : Type 0
EnclosuresHold = (network : Network) (stands : Item → Bool) (ranges : Ranges) (ohm : Element → ℕ) (volts weights : ℕ → ℤ) (reference varied adjoint : Solution)
    (over unit : ℕ) (products : Placed → Ends) (own : Ends) →
    let standing = standing_elements network stands in
    IsWithinLimits network → HaveNoGroundVolts standing volts → HaveNoGroundVolts standing weights → AreInRanges ranges ohm standing → 0 < unit →
    IsSolution (standing_elements (with_grounds ohm network) stands) volts reference → IsVaried standing ranges volts varied →
    IsSolution (standing_elements (with_grounds ohm network) stands) weights adjoint →
    HoldProducts standing over products varied adjoint →
    Encloses own.low own.high (current_by_weights standing weights reference) (unit * over * reference.denominator) →
    let enclosure = enclosure_of standing ranges ohm unit products own in
    Encloses enclosure.low enclosure.high (current_by_weights standing weights varied) (unit * over * varied.denominator)

-- products lie in the products of intervals
abbrev pub ProductsHold : Type 0
ProductsHold = (one other : Ends) (y p : ℤ) (e d : ℕ) →
    Encloses one.low one.high y e → Encloses other.low other.high p d →
    let product = product_ends one other in
    Encloses product.low product.high (y *ℤ p) (e * d)

-- a varied potential lies in its interval, where the three intervals hold the reference's potential and those of the lifts at the node, in the same unit
abbrev pub VariedPotentialsHold : Type 0
VariedPotentialsHold = (reference varied lowering raising : Solution) (k unit : ℕ) (own low high : Ends) →
    0 < reference.denominator → 0 < lowering.denominator → 0 < raising.denominator →
    IsLoweredAtMost varied reference lowering k → IsRaisedAtMost varied reference raising k →
    Encloses own.low own.high (reference.potential k) (unit * reference.denominator) →
    Encloses low.low low.high (lowering.potential k) (unit * lowering.denominator) →
    Encloses high.low high.high (raising.potential k) (unit * raising.denominator) →
    let ends = varied_ends own low high in
    Encloses ends.low ends.high (varied.potential k) (unit * varied.denominator)

-- the voltage of a lift lifts, where the ground has its least resistance in the reference
abbrev pub LiftVoltsLift : Type 0
LiftVoltsLift = (range : Range) (high potential : ℤ) (denominator : ℕ) →
    IsInRange range range.least → potential ≤ℤ (high *ℤ pos denominator) →
    IsLift range range.least potential denominator (lift_volt range high)
