-- The numbers that a view keeps.
use Rattle.std.specs.Prelude.{ℕ, ◌-◌, ◌^◌}
use Rattle.gic_fixed.specs.Encloses.{IsWithin}
use Rattle.gic_fixed.specs.Ends.{Ends}

-- the most that an end may be, either way, that is kept in 64 bits: so its number below 0 fits as well
abbrev pub most_kept : ℕ
most_kept = 2 ^ 63 - 1

-- both ends are within this
abbrev pub FitsView : Ends → Type 0
FitsView ends = IsWithin most_kept ends.low ends.high
