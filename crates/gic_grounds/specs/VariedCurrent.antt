-- The interval of a transformer's current in a field, whatever resistances of their ranges the grounds have.
use Rattle.std.specs.Prelude.{ℕ, ◌≡◌, ◌^◌, ◌⊎◌, List, ℤ, pos, neg_ℤ, ◌≤ℤ◌, int_le, if◌then◌else◌}
use Rattle.std.specs.Int.{int_min, int_max}
use Rattle.gic_effective.specs.RightView.{HasNoEffect}
use Rattle.gic_effective.specs.Weighted.{effective_numerator, effective_denominator}
use Rattle.gic_enclose.specs.Certain.{AreCertain, AreTight}
use Rattle.gic_enclose.specs.Ends.{potential_ends}
use Rattle.gic_fixed.specs.Encloses.{Encloses, IsWithin}
use Rattle.gic_fixed.specs.Ends.{Ends, ends_of, zero_ends, IsAtMostWide}
use Rattle.gic_fixed.specs.Rounding.{floor_div, ceil_div}
use Rattle.gic_model.specs.Solution.{Solution}
use Rattle.gic_model.specs.Standing.{stands_after}
use Rattle.gic_model.specs.Sums.{Placed}
use Rattle.gic_varied.specs.Certified.{Voltages, Intervals, AreCertified, in_units, certified_enclosure}
use Rattle.gic_varied.specs.Corners.{Corner, all_least}
use Rattle.gic_varied.specs.Reciprocal.{weights_from}
use Rattle.gic_varied.specs.Varied.{IsVaried}
use Rattle.gic_winding.specs.ElementList.{elements_of}
use Rattle.gic_winding.specs.Weights.{transformer_at, weighted_windings}
use Rattle.gic_grounds.specs.declared.extreme.Extreme.TheVariants.{Least, Most}
use Rattle.gic_grounds.specs.declared.varied_currents.VariedCurrents.{VariedCurrents}
use Rattle.gic_grounds.specs.declared.unit.TheConstants.{ADJOINT_UNIT}
use Rattle.gic_grounds.specs.Corner.{IsChosen}
use Rattle.gic_grounds.specs.Scale.{weight_times, units_of}
use Rattle.gic_grounds.specs.Tolerated.{Tolerated, ranges_in, own_in, least_in, most_in, corner_in}
use Rattle.gic_grounds.specs.Unit.{IsLeastUnit}

-- intervals in units of so many nanovolts: tight ones in grains that hold every solution for these voltages, rounded outward
pub record AreMadeOfTight (standing : List Placed) (volts : ℕ → ℤ) (unit : ℕ) (ends : ℕ → Ends) : Type 0 where
  pub grains : List Ends
  pub certain : AreCertain standing volts grains
  pub tight : AreTight grains
  pub rounded : (k : ℕ) → ends k ≡ in_units unit (potential_ends grains k)

-- the intervals of a reference's potentials in grains, in the fields to the north and to the east, and a unit of so many nanovolts
pub record References : Type 0 where
  pub north : List Ends
  pub east : List Ends
  pub unit : ℕ

-- tight ones that hold every solution of the network with its grounds at their least, for these voltages of the two fields, and the least unit that serves both
pub record AreReferences (v : Tolerated) (north east : ℕ → ℤ) (references : References) : Type 0 where
  pub north_certain : AreCertain (least_in v) north references.north
  pub north_tight : AreTight references.north
  pub east_certain : AreCertain (least_in v) east references.east
  pub east_tight : AreTight references.east
  pub least_unit : IsLeastUnit references.north references.east references.unit

-- the greatest current that is told, in milliamperes per phase, either way; no varied solution has a greater one
abbrev pub most_told : ℕ
most_told = 2 ^ 61

-- a current cut to this
abbrev pub cut_current : ℤ → ℤ
cut_current z = int_max (neg_ℤ (pos most_told)) (int_min z (pos most_told))

-- an interval ends nowhere beyond another
pub record IsInside (all ends : Ends) : Type 0 where
  pub from : all.low ≤ℤ ends.low
  pub to : ends.high ≤ℤ all.high

-- what two intervals share, and the first where they share nothing
abbrev pub common : (one other : Ends) → Ends
common one other =
    let shared : Ends = record { low = int_max one.low other.low; high = int_min one.high other.high } in
    if int_le shared.low shared.high then shared else one

-- an interval in nanoamperes in milliamperes, rounded outward and cut
abbrev pub milli_cut : Ends → Ends
milli_cut nano = record { low = cut_current (floor_div nano.low (pos 1000000)); high = cut_current (ceil_div nano.high (pos 1000000)) }

-- the ends lie within the certified enclosure, in milliamperes, that is made of this reference at a corner and of tight intervals: of lifts over it, of the adjoint solution for the transformer's weights, and of the reference's own current in nanoamperes
pub record IsOfReference (v : Tolerated) (corner : Corner) (volts : ℕ → ℤ) (unit : ℕ) (reference : List Ends) (t : ℕ) (ends : Ends) : Type 0 where
  pub given : Voltages
  pub intervals : Intervals
  pub in_field : given.field ≡ volts
  pub by_weights : (place : ℕ) → given.weights place ≡ weights_from (weight_times (transformer_at v.case t).high_volts unit) (weighted_windings v.case t) place
  pub certified : AreCertified (elements_of v.case) (stands_after v.rows) (ranges_in v) corner given (units_of (transformer_at v.case t).high_volts unit) intervals
  pub of_reference : (k : ℕ) → intervals.reference k ≡ in_units unit (potential_ends reference k)
  pub tight_adjoint : AreMadeOfTight (corner_in v corner) given.weights ADJOINT_UNIT intervals.adjoint
  pub tight_lowering : AreMadeOfTight (most_in v) given.lowering 1 intervals.lowering
  pub tight_raising : AreMadeOfTight (most_in v) given.raising 1 intervals.raising
  pub tight_own : IsAtMostWide 401 intervals.own.low intervals.own.high
  pub inside : IsInside (milli_cut (certified_enclosure (own_in v) (ranges_in v) corner (units_of (transformer_at v.case t).high_volts unit) intervals)) ends

-- the interval holds the transformer's signed effective current of every varied solution for these voltages
abbrev pub HoldsVaried : Tolerated → (volts : ℕ → ℤ) → (t : ℕ) → (ends : Ends) → Type 0
HoldsVaried v volts t ends = (s : Solution) → IsVaried (own_in v) (ranges_in v) volts s →
    Encloses ends.low ends.high (effective_numerator v.case s t) (effective_denominator v.case t s)

-- it does, and lies within the certified enclosure that is made at this corner of some tight reference in the least unit that serves it
pub record IsAtCorner (v : Tolerated) (corner : Corner) (volts : ℕ → ℤ) (t : ℕ) (ends : Ends) : Type 0 where
  pub reference : List Ends
  pub unit : ℕ
  pub certain : AreCertain (corner_in v corner) volts reference
  pub tight : AreTight reference
  pub least_unit : IsLeastUnit reference reference unit
  pub of_reference : IsOfReference v corner volts unit reference t ends
  pub holds : HoldsVaried v volts t ends

-- an interval was cut to what it shares with one that is made at this corner; where they share nothing it stayed
pub record IsCutAtCorner (v : Tolerated) (corner : Corner) (volts : ℕ → ℤ) (t : ℕ) (before after : Ends) : Type 0 where
  pub other : Ends
  pub at_corner : IsAtCorner v corner volts t other
  pub is : after ≡ common before other

-- an interval was cut at the corner where the current is the greatest, and then at the one where it is the least, as far as the signs of these potentials tell
pub record IsCutAtCorners (v : Tolerated) (adjoint reference : List Ends) (volts : ℕ → ℤ) (t : ℕ) (before after : Ends) : Type 0 where
  pub greatest : Corner
  pub least : Corner
  pub between : Ends
  pub greatest_chosen : IsChosen Most adjoint reference greatest
  pub least_chosen : IsChosen Least adjoint reference least
  pub first_cut : IsCutAtCorner v greatest volts t before between
  pub second_cut : IsCutAtCorner v least volts t between after

-- so were those in the fields to the north and to the east, by one adjoint solution and the reference in each field
pub record AreCutAtCorners (v : Tolerated) (adjoint north_reference east_reference : List Ends) (north east : ℕ → ℤ) (t : ℕ) (before after : VariedCurrents) : Type 0 where
  pub to_north : IsCutAtCorners v adjoint north_reference north t (ends_of before.north) (ends_of after.north)
  pub to_east : IsCutAtCorners v adjoint east_reference east t (ends_of before.east) (ends_of after.east)

-- the interval holds the transformer's signed effective current of every varied solution for these voltages, and is 0 alone where no winding that stands has a weight; else it lies within the certified enclosure that is made of the reference with all grounds at their least and of tight intervals
pub record IsVariedCurrent (v : Tolerated) (volts : ℕ → ℤ) (unit : ℕ) (reference : List Ends) (t : ℕ) (ends : Ends) : Type 0 where
  pub holds : HoldsVaried v volts t ends
  pub zeroed : HasNoEffect v.case (own_in v) t → ends ≡ zero_ends
  pub pinned : HasNoEffect v.case (own_in v) t ⊎ IsOfReference v all_least volts unit reference t ends

-- so are those in the fields to the north and to the east, of one pair of references
pub record AreVariedCurrents (v : Tolerated) (north east : ℕ → ℤ) (t : ℕ) (currents : VariedCurrents) : Type 0 where
  pub references : References
  pub of_case : AreReferences v north east references
  pub to_north : IsVariedCurrent v north references.unit references.north t (ends_of currents.north)
  pub to_east : IsVariedCurrent v east references.unit references.east t (ends_of currents.east)

-- the currents end nowhere beyond others
pub record AreInside (all currents : VariedCurrents) : Type 0 where
  pub in_north : IsInside (ends_of all.north) (ends_of currents.north)
  pub in_east : IsInside (ends_of all.east) (ends_of currents.east)

-- no end is beyond the greatest current that is told
pub record AreCutCurrents (currents : VariedCurrents) : Type 0 where
  pub north_within : IsWithin most_told currents.north.lo currents.north.hi
  pub east_within : IsWithin most_told currents.east.lo currents.east.hi
