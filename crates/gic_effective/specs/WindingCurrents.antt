-- The intervals of the currents of three windings, in nanoamperes.
use Rattle.std.specs.Prelude.{ℕ, ℤ}
use Rattle.gic_fixed.specs.Encloses.{Encloses, IsWithin}
use Rattle.gic_fixed.specs.Ends.{IsAtMostWide}
use Rattle.gic_winding.specs.declared.weights.Weights.{Weights}
use Rattle.gic_effective.specs.Milli.{IsMilliAtMostWide}
use Rattle.gic_effective.specs.WeightedSum.{weighted_sum}
use Rattle.gic_effective.specs.declared.winding_currents.WindingCurrents.{WindingCurrents}

-- the weighted sum of their low ends, and that of their high ends
abbrev pub low_sum : Weights → WindingCurrents → ℤ
low_sum weights currents = weighted_sum weights currents.first.lo currents.second.lo currents.third.lo

abbrev pub high_sum : Weights → WindingCurrents → ℤ
high_sum weights currents = weighted_sum weights currents.first.hi currents.second.hi currents.third.hi

-- no end of any is beyond this bound either way
pub record AreWithin (bound : ℕ) (currents : WindingCurrents) : Type 0 where
  pub in_first : IsWithin bound currents.first.lo currents.first.hi
  pub in_second : IsWithin bound currents.second.lo currents.second.hi
  pub in_third : IsWithin bound currents.third.lo currents.third.hi

-- they enclose these three fractions with one denominator, one each
pub record EncloseEach (currents : WindingCurrents) (first second third : ℤ) (denominator : ℕ) : Type 0 where
  pub in_first : Encloses currents.first.lo currents.first.hi first denominator
  pub in_second : Encloses currents.second.lo currents.second.hi second denominator
  pub in_third : Encloses currents.third.lo currents.third.hi third denominator

-- none is wider than this
pub record AreAtMostWide (width : ℕ) (currents : WindingCurrents) : Type 0 where
  pub in_first : IsAtMostWide width currents.first.lo currents.first.hi
  pub in_second : IsAtMostWide width currents.second.lo currents.second.hi
  pub in_third : IsAtMostWide width currents.third.lo currents.third.hi

-- none is wider than this many milliamperes
pub record AreMilliAtMostWide (width : ℕ) (currents : WindingCurrents) : Type 0 where
  pub in_first : IsMilliAtMostWide width currents.first.lo currents.first.hi
  pub in_second : IsMilliAtMostWide width currents.second.lo currents.second.hi
  pub in_third : IsMilliAtMostWide width currents.third.lo currents.third.hi
