-- What the lines of nodes are read as.
use Rattle.std.specs.Prelude.{ℕ, ◌≡◌, ◌≤◌, List, Option, map, pos, unsigned_abs, slice_index_or}
use Rattle.gic_base.specs.declared.limits.TheConstants.{MOST_WALK}
use Rattle.gic_cert.specs.declared.limits.TheConstants.{MOST_WRITTEN_GUESS, MOST_WRITTEN_RADIUS}
use Rattle.gic_cert.specs.declared.rows.NodeName.{NodeName}
use Rattle.gic_cert.specs.declared.rows.NodeRow.{NodeRow}
use Rattle.gic_cert.specs.Written.{Written}
use Rattle.gic_cert.specs.Columns.{written_of}
use Rattle.gic_cert.specs.Reading.{NamedNode}

-- what such a row says
abbrev pub row_written : NodeRow → Option Written
row_written row = written_of row.entry row.guess row.radius

-- the nodes with their names
abbrev pub named_nodes : List NodeName → List NamedNode
named_nodes nodes = map (λ node. (node.name, node.live)) nodes

-- its numbers are in their ranges, and 0 alone where the node is dead
pub record IsNodeRow (row : NodeRow) : Type 0 where
  pub entry : row.entry ≤ MOST_WALK
  pub guess : unsigned_abs row.guess ≤ MOST_WRITTEN_GUESS
  pub radius : row.radius ≤ MOST_WRITTEN_RADIUS
  pub dead_guess : row.entry ≡ 0 → row.guess ≡ pos 0
  pub dead_radius : row.entry ≡ 0 → row.radius ≡ 0

-- the row of the node k, 0 in each past the last
abbrev pub written_row_at : List NodeRow → ℕ → NodeRow
written_row_at rows k = slice_index_or rows k (record { entry = 0; guess = pos 0; radius = 0 })
