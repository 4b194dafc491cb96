-- The usual ranges of values, in the units of a case: hundredths of a degree and of beta, micro-ohm, metres, micro-ohm for a kilometre, V.
use Rattle.std.specs.Prelude.{ℕ, Bool, ◌||◌, nat_lt}
use Rattle.gic_review.specs.declared.findings.measured.Quantity.{Quantity}
use Rattle.gic_review.specs.declared.findings.measured.Quantity.TheVariants as values

-- the number is below the least or above the most
abbrev pub is_off : (least most number : ℕ) → Bool
is_off least most number = nat_lt number least || nat_lt most number

-- the table of the ranges: whether a number is hardly ever seen there
abbrev pub is_unusual : Quantity → ℕ → Bool
is_unusual values.Latitude number = is_off 2000 7500 number
is_unusual values.Beta number = nat_lt number 10
is_unusual values.Ground number = is_off 10000 10000000 number
is_unusual values.Resistance number = is_off 50000 50000000 number
is_unusual values.Span number = nat_lt number 100
is_unusual values.PerKilometre number = is_off 2000 1000000 number
is_unusual values.HighVolts number = nat_lt number 10000
is_unusual values.HighResistance number = is_off 10000 5000000 number
is_unusual values.LowResistance number = is_off 10000 5000000 number
is_unusual values.SeriesResistance number = is_off 10000 5000000 number
is_unusual values.CommonResistance number = is_off 10000 5000000 number
is_unusual values.ThirdResistance number = is_off 10000 5000000 number
is_unusual values.Neutral number = nat_lt 100000000 number
