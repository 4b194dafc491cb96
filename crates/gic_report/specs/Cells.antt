-- The intervals of a view that are still to be shown.
use Rattle.std.specs.Prelude.{List, Option, None, slice_index_or}
use Rattle.gic_fixed.specs.Ends.{Ends, zero_ends}
use Rattle.gic_view.specs.View.{View}
use Rattle.gic_report.specs.declared.listed.Listed.{Listed}
use Rattle.gic_report.specs.declared.listed.Listed.TheVariants.{Nodes, Elements}

-- the intervals of the nodes of a view, or of its elements
abbrev pub listed_cells : Listed → View → List (Option Ends)
listed_cells Nodes view = view.nodes
listed_cells Elements view = view.elements

-- the first interval; none past the last
abbrev pub first_cell : List (Option Ends) → Option Ends
first_cell cells = slice_index_or cells 0 None

-- the first interval of a transformer; past the last it holds 0 alone
abbrev pub first_ends : List Ends → Ends
first_ends cells = slice_index_or cells 0 zero_ends
