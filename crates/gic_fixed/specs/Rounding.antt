-- Quotients of whole numbers rounded down and up, and the ends of an absolute value.
use Rattle.std.specs.Prelude.{ℤ, pos, neg_ℤ}
use Rattle.std.specs.Int.{int_div_euclid, int_max}

-- z / d rounded down; d is above 0
abbrev pub floor_div : ℤ → ℤ → ℤ
floor_div z d = int_div_euclid z d

-- z / d rounded up; d is above 0
abbrev pub ceil_div : ℤ → ℤ → ℤ
ceil_div z d = neg_ℤ (int_div_euclid (neg_ℤ z) d)

-- the least and the greatest absolute value of the numbers from lo to hi
abbrev pub least_abs : ℤ → ℤ → ℤ
least_abs lo hi = int_max (pos 0) (int_max lo (neg_ℤ hi))

abbrev pub greatest_abs : ℤ → ℤ → ℤ
greatest_abs lo hi = int_max hi (neg_ℤ lo)
