-- A superposed interval, worked by hand.
use Rattle.std.specs.Prelude.{◌≡◌, [], ◌∷◌, pos, neg_ℤ}
use Rattle.gic_superpose.specs.Superposed.{superposed}

-- in half the base field to the south, which turns the ends, and the whole one to the east: from [1, 3] and [2, 2.000001] mA it is [0.5, 1.500001] mA, rounded outward
abbrev pub WorkedStep : Type 0
WorkedStep =
    superposed ((neg_ℤ (pos 10000), pos 20000) ∷ [])
    (record { north = record { low = pos 1000000; high = pos 3000000 }; east = record { low = pos 2000000; high = pos 2000001 } } ∷ [])
    ≡ record { low = pos 0; high = pos 2 }
