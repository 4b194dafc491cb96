-- Views that can be shown of nodes, rows and transformers, and what the lines of their items determine.
use Rattle.std.proofs.Common.{◌≡◌, ◌∙◌, ℕ, List, ◌++◌, map, length}
use Rattle.std.specs.List.{AllByRecursion}
use Rattle.std.proofs.lemmas.List.Elements.{recursion_from_All}
use Rattle.gic_view.specs.View.{View}
use Rattle.gic_text.specs.Words.{IsWord, IsLine}
use Rattle.gic_case.specs.declared.item.Transformer.{Transformer}
use Rattle.gic_case.specs.Lists.{Lists, node_names}
use Rattle.gic_winding.specs.ElementList.{elements_of}
use Rattle.gic_report.specs.SharedLines.{Words}
use Rattle.gic_report.specs.declared.rows.ItemRow.{ItemRow}
use Rattle.gic_report.specs.Fits.{AreInRange, HasNames, IsViewInRange}
use Rattle.gic_report.specs.ItemText.{node_lines, row_lines, item_rows_of}
use Rattle.gic_report.proofs.CaseNames.{node_words, transformer_names}
use Rattle.gic_report.proofs.RowCounts.{HasLine, element_count, rows_named, shows}
use Rattle.gic_report.proofs.ViewDetermined.{CellInRange, are_nodes, are_rows, same_nodes, same_rows}

module _ (names : List (List ℕ)) (rows : List ItemRow) (ts : List Transformer) where
  -- the view is one of these names, rows and transformers, and its ends are in range
  pub record IsShown (view : View) : Type 0 where
    pub node_count : length view.nodes ≡ length names
    pub element_count : length view.elements ≡ shows rows
    pub transformer_count : length view.effective ≡ length ts
    pub nodes_fit : AllByRecursion CellInRange view.nodes
    pub elements_fit : AllByRecursion CellInRange view.elements
    pub effective_fit : AllByRecursion AreInRange view.effective

  -- the names of nodes and transformers are words, and rows are named by words
  pub record AreNamed : Type 0 where
    pub node_words : AllByRecursion IsWord names
    pub row_words : AllByRecursion HasLine rows
    pub transformer_words : AllByRecursion IsWord (map (λ t. t.name) ts)

  -- the lines of the nodes and rows, and some lines behind them, are lines
  pub are_items : (view : View) (rest : List Words) → AreNamed → IsShown view → AllByRecursion IsLine rest → AllByRecursion IsLine (node_lines names view.nodes ++ (row_lines rows view.elements ++ rest))
  are_items view rest named s k = are_nodes names view.nodes (row_lines rows view.elements ++ rest) named.node_words s.nodes_fit (are_rows rows view.elements rest named.row_words s.elements_fit k)

  -- what they determine: the intervals of the nodes and the elements, and the lines behind them
  pub record SameItems (v w : View) (rest others : List Words) : Type 0 where
    pub nodes : v.nodes ≡ w.nodes
    pub elements : v.elements ≡ w.elements
    pub behind : rest ≡ others

  pub same_items : (v w : View) (rest others : List Words) → IsShown v → IsShown w
      → node_lines names v.nodes ++ (row_lines rows v.elements ++ rest) ≡ node_lines names w.nodes ++ (row_lines rows w.elements ++ others) → SameItems v w rest others
  same_items v w rest others s t e =
      let nodes = same_nodes names v.nodes w.nodes (row_lines rows v.elements ++ rest) (row_lines rows w.elements ++ others) s.node_count t.node_count s.nodes_fit t.nodes_fit e in
      let elements = same_rows rows rest others v.elements w.elements s.element_count t.element_count s.elements_fit t.elements_fit nodes.1 in
      record { nodes = nodes.0; elements = elements.0; behind = elements.1 }

-- ---- on a case

pub case_named : (case : Lists) → HasNames case → AreNamed (node_names case) (item_rows_of case) case.transformers
case_named case h = record { node_words = node_words case h; row_words = rows_named case h; transformer_words = transformer_names case h }

pub case_shown : (case : Lists) (view : View) → length view.nodes ≡ length (node_names case) → length view.elements ≡ length (elements_of case).list → length view.effective ≡ length case.transformers
    → IsViewInRange view → IsShown (node_names case) (item_rows_of case) case.transformers view
case_shown case view nodes elements transformers fits = record {
  node_count = nodes;
  element_count = elements ∙ element_count case;
  transformer_count = transformers;
  nodes_fit = recursion_from_All CellInRange view.nodes fits.nodes;
  elements_fit = recursion_from_All CellInRange view.elements fits.elements;
  effective_fit = recursion_from_All AreInRange view.effective fits.effective;
}
