-- Where in a view the lines of a report take their intervals from.
use Rattle.std.specs.Prelude.{◌≡◌, List, [], ◌∷◌, ◌++◌, map, not, codes, length, All, IsTrue}
use Rattle.std.specs.List.{enumerate_from, filter, zip}
use Rattle.gic_case.specs.Lists.{Lists, node_names}
use Rattle.gic_model.specs.declared.parts.Element.{Element}
use Rattle.gic_model.specs.Sums.{Placed}
use Rattle.gic_view.specs.View.{View, node_at, element_at, effective_at}
use Rattle.gic_winding.specs.ElementList.{elements_of, item_name}
use Rattle.gic_report.specs.SharedLines.{Words}
use Rattle.gic_report.specs.declared.rows.ItemRow.{ItemRow}
use Rattle.gic_report.specs.ItemText.{cell_words, effective_line, effective_lines, named_as, node_line, node_lines, row_lines, item_row_words, item_rows_of}

-- the words that name an element of the case: what it is, and the name of its item
abbrev pub element_words : Lists → Element → Words
element_words case e = named_as e.role (item_name case e.item)

-- the line of the element at a place: the words that name it, and the interval that the view has at that place
abbrev pub placed_line : Lists → View → Placed → Words
placed_line case view p = element_words case p.1 ++ cell_words (codes "open") (element_at view p.0)

-- the lines of the rows that aren't blocked
abbrev pub unblocked_lines : List ItemRow → List Words → List Words
unblocked_lines rows lines = map (λ p. p.1) (filter (λ p. not p.0.blocked) (zip rows lines))

-- the line of each node, element and transformer, in their order, shows the interval that the view has at that place; a blocked row says so
pub record ShowsPlaces (case : Lists) (view : View) : Type 0 where
  pub nodes : node_lines (node_names case) view.nodes ≡ map (λ p. node_line p.1 (node_at view p.0)) (enumerate_from 0 (node_names case))
  pub elements : unblocked_lines (item_rows_of case) (row_lines (item_rows_of case) view.elements) ≡ map (placed_line case view) (enumerate_from 0 (elements_of case).list)
  pub row_count : length (row_lines (item_rows_of case) view.elements) ≡ length (item_rows_of case)
  pub blocked : All (λ p. IsTrue p.0.blocked → p.1 ≡ item_row_words p.0 ++ codes "blocked" ∷ []) (zip (item_rows_of case) (row_lines (item_rows_of case) view.elements))
  pub effective : effective_lines case.transformers view.effective ≡ map (λ p. effective_line p.1.name (effective_at view p.0)) (enumerate_from 0 case.transformers)

-- whatever the case and the view
abbrev pub LinesShowPlaces : Type 0
LinesShowPlaces = (case : Lists) (view : View) → ShowsPlaces case view
