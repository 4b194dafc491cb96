-- Rows and lines of nodes that are written part by part.
use Rattle.std.proofs.Common.{◌≡◌, ◌∙◌, ℕ, Option, List, ◌∷◌, ◌++◌, drop, sym, ap}
use Rattle.gic_fixed.specs.Ends.{Ends}
use Rattle.gic_text.specs.Lines.{line_text, lines_text}
use Rattle.gic_report.specs.Cells.{first_cell}
use Rattle.gic_report.specs.declared.rows.ItemRow.{ItemRow}
use Rattle.gic_report.specs.ItemText.{left_behind, node_line, node_lines, item_row_line, row_lines}

-- what is left of the nodes begins with the line of the next
pub next_node : (names others : List (List ℕ)) (cells left : List (Option Ends)) (name : List ℕ) (shown : Option Ends) → names ≡ name ∷ others → shown ≡ first_cell cells → left ≡ drop 1 cells
    → lines_text (node_lines names cells) ≡ line_text (node_line name shown) ++ lines_text (node_lines others left)
next_node names others cells left name shown e f h =
    ap (λ n. lines_text (node_lines n cells)) e
    ∙ ap (λ s. line_text (node_line name s) ++ lines_text (node_lines others (drop 1 cells))) (sym f)
    ∙ ap (λ l. line_text (node_line name shown) ++ lines_text (node_lines others l)) (sym h)

-- what is left of the rows begins with the line of the next
pub next_row : (rows others : List ItemRow) (cells left : List (Option Ends)) (row : ItemRow) → rows ≡ row ∷ others → left ≡ left_behind row.blocked cells
    → lines_text (row_lines rows cells) ≡ line_text (item_row_line row cells) ++ lines_text (row_lines others left)
next_row rows others cells left row e h =
    ap (λ rs. lines_text (row_lines rs cells)) e ∙ ap (λ l. line_text (item_row_line row cells) ++ lines_text (row_lines others l)) (sym h)
