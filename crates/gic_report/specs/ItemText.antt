-- The lines of the items of a view. A row that isn't blocked shows the next interval; the rows are in the order of the intervals.
use Rattle.std.specs.Prelude.{ℕ, Bool, true, false, if◌then◌else◌, List, [], ◌∷◌, ◌++◌, map, flat_map, drop, codes, Option, None, Some}
use Rattle.std.specs.Fmt.{signed_decimal}
use Rattle.gic_view.specs.View.{View}
use Rattle.gic_fixed.specs.Ends.{Ends}
use Rattle.gic_model.specs.declared.parts.Role.{Role}
use Rattle.gic_model.specs.declared.parts.Role.TheVariants as role
use Rattle.gic_case.specs.declared.item.Substation.{Substation}
use Rattle.gic_case.specs.declared.item.Line.{Line}
use Rattle.gic_case.specs.declared.item.Neutral.{Neutral}
use Rattle.gic_case.specs.declared.item.Neutral.TheVariants as devices
use Rattle.gic_case.specs.declared.item.Transformer.{Transformer}
use Rattle.gic_case.specs.declared.winding.Winding.{Winding}
use Rattle.gic_case.specs.Lists.{Lists, node_names}
use Rattle.gic_case.specs.Windings.{windings_of}
use Rattle.gic_winding.specs.ElementList.{role_of}
use Rattle.gic_report.specs.SharedLines.{Words}
use Rattle.gic_report.specs.RoleWord.{role_word}
use Rattle.gic_report.specs.declared.rows.ItemRow.{ItemRow}
use Rattle.gic_report.specs.Cells.{first_cell, first_ends}

-- an interval by its ends
abbrev pub ends_words : Ends → Words
ends_words e = signed_decimal e.low ∷ signed_decimal e.high ∷ []

-- an interval by its ends, or the word that stands for none
abbrev pub cell_words : List ℕ → Option Ends → Words
cell_words absent None = absent ∷ []
cell_words absent (Some e) = ends_words e

-- the words that name a row by what stands in it and by the name of its item
abbrev pub named_as : Role → List ℕ → Words
named_as role.Ground name = codes "ground" ∷ name ∷ []
named_as role.Line name = codes "line" ∷ name ∷ []
named_as role.Neutral name = codes "neutral" ∷ name ∷ []
named_as role.High name = codes "winding" ∷ name ∷ role_word role.High ∷ []
named_as role.Low name = codes "winding" ∷ name ∷ role_word role.Low ∷ []
named_as role.Series name = codes "winding" ∷ name ∷ role_word role.Series ∷ []
named_as role.Common name = codes "winding" ∷ name ∷ role_word role.Common ∷ []
named_as role.Third name = codes "winding" ∷ name ∷ role_word role.Third ∷ []

abbrev pub item_row_words : ItemRow → Words
item_row_words row = named_as row.role row.name

-- what a row shows of the intervals that are left
abbrev pub shown_words : Bool → List (Option Ends) → Words
shown_words blocked cells = if blocked then codes "blocked" ∷ [] else cell_words (codes "open") (first_cell cells)

-- the intervals that are left behind a row
abbrev pub left_behind : Bool → List (Option Ends) → List (Option Ends)
left_behind blocked cells = if blocked then cells else drop 1 cells

-- the line of a row
abbrev pub item_row_line : ItemRow → List (Option Ends) → Words
item_row_line row cells = item_row_words row ++ shown_words row.blocked cells

-- the lines of rows: that of each element shows the interval at its place (`item_lines_law`)
abbrev pub row_lines : List ItemRow → List (Option Ends) → List Words
row_lines [] cells = []
row_lines (row ∷ rows) cells = item_row_line row cells ∷ row_lines rows (left_behind row.blocked cells)

-- ---- the rows of a case

abbrev pub item_row_of : Role → List ℕ → Bool → ItemRow
item_row_of kept name blocked = record { role = kept; name = name; blocked = blocked }

-- a substation with a ground
abbrev pub ground_rows : List ℕ → Option ℕ → List ItemRow
ground_rows name None = []
ground_rows name (Some ohm) = item_row_of role.Ground name false ∷ []

-- a line, blocked or not
abbrev pub line_row : Line → ItemRow
line_row l = item_row_of role.Line l.name l.blocked

-- the windings of the transformer of this name
abbrev pub winding_rows : List ℕ → List Winding → List ItemRow
winding_rows name = map (λ w. item_row_of (role_of w.role) name false)

-- a neutral device, which is a resistor or blocked
abbrev pub neutral_rows : List ℕ → Option Neutral → List ItemRow
neutral_rows name None = []
neutral_rows name (Some (devices.Resistor ohm)) = item_row_of role.Neutral name false ∷ []
neutral_rows name (Some devices.Blocked) = item_row_of role.Neutral name true ∷ []

-- the rows of each list of the case
abbrev pub all_ground_rows : List Substation → List ItemRow
all_ground_rows = flat_map (λ s. ground_rows s.name s.ground)

abbrev pub all_line_rows : List Line → List ItemRow
all_line_rows = map line_row

abbrev pub all_winding_rows : List Transformer → List ItemRow
all_winding_rows = flat_map (λ t. winding_rows t.name (windings_of t))

abbrev pub all_neutral_rows : List Transformer → List ItemRow
all_neutral_rows = flat_map (λ t. neutral_rows t.name t.neutral)

-- the rows of a case: grounds, lines, windings, neutral devices
abbrev pub item_rows_of : Lists → List ItemRow
item_rows_of c = all_ground_rows c.substations ++ (all_line_rows c.lines ++ (all_winding_rows c.transformers ++ all_neutral_rows c.transformers))

-- ---- nodes and effective currents

-- the line of a node
abbrev pub node_line : List ℕ → Option Ends → Words
node_line name cell = codes "node" ∷ name ∷ cell_words (codes "dead") cell

-- per node, in node order
abbrev pub node_lines : List (List ℕ) → List (Option Ends) → List Words
node_lines [] cells = []
node_lines (name ∷ names) cells = node_line name (first_cell cells) ∷ node_lines names (drop 1 cells)

-- the line of a transformer's effective current
abbrev pub effective_line : List ℕ → Ends → Words
effective_line name e = codes "effective" ∷ name ∷ ends_words e

-- per transformer, with its interval
abbrev pub per_transformer : (Transformer → Ends → Words) → List Transformer → List Ends → List Words
per_transformer line [] cells = []
per_transformer line (t ∷ ts) cells = line t (first_ends cells) ∷ per_transformer line ts (drop 1 cells)

-- the lines of the effective currents
abbrev pub effective_lines : List Transformer → List Ends → List Words
effective_lines = per_transformer (λ t e. effective_line t.name e)

-- the signed items of a view: nodes, then grounds, lines, windings and neutral devices, then effective currents
abbrev pub signed_lines : Lists → View → List Words
signed_lines case view = node_lines (node_names case) view.nodes ++ (row_lines (item_rows_of case) view.elements ++ effective_lines case.transformers view.effective)
