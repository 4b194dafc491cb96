-- The greatest current over all orientations of a uniform field.
use Rattle.std.specs.Prelude.{ℕ, ◌+◌, ◌*◌, ◌≤◌, ◌≡◌, ℤ, pos, negsuc, ◌*ℤ◌, ◌≤ℤ◌, unsigned_abs}
use Rattle.gic_fixed.specs.Ends.{Ends, zero_ends}
use Rattle.gic_fixed.specs.Rounding.{least_abs, greatest_abs}
use Rattle.gic_fixed.specs.Roots.{IsFloorRoot, IsCeilRoot}

-- the square of a whole number
abbrev pub square_of : ℤ → ℕ
square_of z = unsigned_abs z * unsigned_abs z

-- lo² ≤ (n/d)² + (m/e)² ≤ hi², where lo is not below 0: the interval encloses the worst current of n/d and m/e
pub record EnclosesWorst (lo hi n : ℤ) (d : ℕ) (m : ℤ) (e : ℕ) : Type 0 where
  pub not_negative : pos 0 ≤ℤ lo
  pub above_lo : square_of (lo *ℤ pos (d * e)) ≤ square_of (n *ℤ pos e) + square_of (m *ℤ pos d)
  pub below_hi : square_of (n *ℤ pos e) + square_of (m *ℤ pos d) ≤ square_of (hi *ℤ pos (d * e))

-- the worst interval of the signed intervals to the north and to the east: from the root of the sum of the squares of the least absolute values in the two, rounded down, to that of the greatest ones, rounded up
pub record IsWorstOf (north east worst : Ends) : Type 0 where
  pub not_negative : pos 0 ≤ℤ worst.low
  pub in_order : worst.low ≤ℤ worst.high
  pub low : IsFloorRoot (square_of (least_abs north.low north.high) + square_of (least_abs east.low east.high)) (unsigned_abs worst.low)
  pub high : IsCeilRoot (square_of (greatest_abs north.low north.high) + square_of (greatest_abs east.low east.high)) (unsigned_abs worst.high)

-- there is one alone
abbrev pub WorstIsDetermined : Type 0
WorstIsDetermined = (north east worst other : Ends) → IsWorstOf north east worst → IsWorstOf north east other → worst ≡ other

-- that of two points 0 is the point 0
abbrev pub WorstOfZeroIsZero : Type 0
WorstOfZeroIsZero = (worst : Ends) → IsWorstOf zero_ends zero_ends worst → worst ≡ zero_ends

-- that of two intervals from -1 to 1 goes from 0 to 2
abbrev pub ends_about_zero : Ends
ends_about_zero = record { low = negsuc 0; high = pos 1 }

abbrev pub ends_up_to_2 : Ends
ends_up_to_2 = record { low = pos 0; high = pos 2 }

abbrev pub WorstAboutZero : Type 0
WorstAboutZero = (worst : Ends) → IsWorstOf ends_about_zero ends_about_zero worst → worst ≡ ends_up_to_2
