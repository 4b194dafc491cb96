-- The ends of intervals as a view keeps them.
use Rattle.std.specs.Prelude.{Option, None, Some, cond, int_lt}
use Rattle.gic_fixed.specs.Ends.{Ends}
use Rattle.gic_view.specs.declared.kept.Kept.{Kept}
use Rattle.gic_view.specs.declared.kept.Cell.{Cell}

abbrev pub kept_ends : Kept → Ends
kept_ends kept = record { low = kept.lo; high = kept.hi }

abbrev pub optional_kept : Option Kept → Option Ends
optional_kept None = None
optional_kept (Some kept) = Some (kept_ends kept)

-- none where the cell ends below where it begins
abbrev pub cell_ends : Cell → Option Ends
cell_ends cell = cond (int_lt cell.hi cell.lo) None (Some (record { low = cell.lo; high = cell.hi }))
