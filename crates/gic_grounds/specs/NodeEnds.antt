-- Intervals of the nodes, each as its two ends.
use Rattle.std.specs.Prelude.{ℕ, List}
use Rattle.gic_enclose.specs.Ends.{low_at, high_at}
use Rattle.gic_fixed.specs.Encloses.{IsWithin}
use Rattle.gic_fixed.specs.Ends.{Ends}

-- no end of any node's interval is beyond this bound, either way
abbrev pub AreAllWithin : (bound : ℕ) → List Ends → Type 0
AreAllWithin bound intervals = (k : ℕ) → IsWithin bound (low_at intervals k) (high_at intervals k)
