-- The table of intervals in the base fields of a case.
use Rattle.std.specs.Prelude.{ℕ, ◌≡◌, ◌≢◌, ◌<◌, length}
use Rattle.gic_case.specs.Lists.{Lists}
use Rattle.gic_winding.specs.ElementList.{elements_of}
use Rattle.gic_superpose.specs.Superposed.{zone_at}
use Rattle.gic_superpose.specs.Rows.{FlatRows, row_at, AreRowsOf}
use Rattle.gic_base_views.specs.declared.table.BaseTable.{BaseTable}
use Rattle.gic_base_views.specs.BaseRows.{BaseRows}

-- its rows
abbrev pub base_rows_of : BaseTable → BaseRows
base_rows_of table = record { nodes = row_at table.nodes; elements = row_at table.elements; effective = row_at table.effective }

-- it has a row for each node, element and transformer of the case, with a pair of intervals for each zone
pub record IsTableOf (case : Lists) (table : BaseTable) : Type 0 where
  pub nodes : AreRowsOf (elements_of case).nodes (length case.zones) table.nodes
  pub elements : AreRowsOf (length (elements_of case).list) (length case.zones) table.elements
  pub effective : AreRowsOf (length case.transformers) (length case.zones) table.effective

-- in all rows the pairs of the other zones stay
abbrev pub OthersStay : (zone : ℕ) → (old new : FlatRows) → Type 0
OthersStay zone old new = (place other : ℕ) → other < old.zones → other ≢ zone → zone_at (row_at new place) other ≡ zone_at (row_at old place) other

-- so they do in the whole table
pub record IsSameElsewhere (zone : ℕ) (old new : BaseTable) : Type 0 where
  pub nodes : OthersStay zone old.nodes new.nodes
  pub elements : OthersStay zone old.elements new.elements
  pub effective : OthersStay zone old.effective new.effective
