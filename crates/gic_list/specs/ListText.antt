-- The report of the elements of a case.
use Rattle.std.specs.Prelude.{ℕ, List, [], ◌∷◌, ◌++◌, length, map, codes, slice_index_or, decimal}
use Rattle.gic_model.specs.declared.parts.End.{End}
use Rattle.gic_model.specs.declared.parts.End.TheVariants.{Node, Earth}
use Rattle.gic_model.specs.declared.parts.Element.{Element}
use Rattle.gic_case.specs.Lists.{Lists, node_names}
use Rattle.gic_winding.specs.ElementList.{item_name}
use Rattle.gic_report.specs.SharedLines.{Words, word_line, sizes_line}
use Rattle.gic_report.specs.RoleWord.{role_word}

-- the name of the node at a place in the node order
abbrev pub node_name : Lists → ℕ → List ℕ
node_name case place = slice_index_or (node_names case) place []

-- an end is a node by its name, or earth by a star
abbrev pub end_name : Lists → End → List ℕ
end_name case (Node n) = node_name case n.0
end_name case Earth = codes "*"

-- the line of an element: its item's name, what it is, its two ends, and its parallel paths of this many micro-ohm
unfoldable pub element_line : Lists → Element → Words
element_line case e = codes "element" ∷ item_name case e.item ∷ role_word e.role ∷ node_name case e.from.0 ∷ end_name case e.to ∷ decimal e.times ∷ decimal e.micro_ohm ∷ []

-- the lines of the report of the elements, in their order
abbrev pub list_report : Lists → (nodes : ℕ) → List Element → List Words
list_report case nodes elements =
    word_line (codes "list") ∷ sizes_line nodes (length elements) ∷ (map (element_line case) elements ++ word_line (codes "end") ∷ [])
