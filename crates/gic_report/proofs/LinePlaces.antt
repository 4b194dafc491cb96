-- The lines of a view show the intervals at their places.
use Rattle.std.proofs.Common.{◌≡◌, ◌∙◌, ℕ, ◌+◌, zero, suc, true, false, not, Option, None, List, [], ◌∷◌, ◌++◌, map, length, drop, get_or, refl, sym, ap, ap₂, add-one, IsTrue}
use Rattle.std.specs.Prelude.{codes, if◌then◌else◌}
use Rattle.std.specs.List.{AllByRecursion, enumerate_from, filter, zip}
use Rattle.std.proofs.lemmas.List.Elements.{All-from_recursion}
use Rattle.gic_case.specs.declared.item.Transformer.{Transformer}
use Rattle.gic_case.specs.Lists.{Lists, node_names}
use Rattle.gic_model.specs.declared.parts.Element.{Element}
use Rattle.gic_fixed.specs.Ends.{Ends, zero_ends}
use Rattle.gic_winding.specs.ElementList.{elements_of}
use Rattle.gic_report.specs.SharedLines.{Words}
use Rattle.gic_report.specs.declared.rows.ItemRow.{ItemRow}
use Rattle.gic_report.specs.Cells.{first_cell, first_ends}
use Rattle.gic_report.specs.ItemText.{cell_words, effective_line, left_behind, node_line, node_lines, per_transformer, row_lines, item_row_words, item_rows_of, shown_words}
use Rattle.gic_report.specs.Places.{LinesShowPlaces, element_words, unblocked_lines}
use Rattle.gic_report.proofs.RowHeads.{elements_named, heads}

-- the first item behind a place, and what follows it
first_behind : {A : Type 0} (xs : List A) (n : ℕ) (d : A) → get_or (drop n xs) 0 d ≡ get_or xs n d
first_behind [] zero d = refl
first_behind [] (suc n) d = refl
first_behind (x ∷ xs) zero d = refl
first_behind (x ∷ xs) (suc n) d = first_behind xs n d

next_one : {A : Type 0} (xs : List A) (n : ℕ) → drop 1 (drop n xs) ≡ drop (suc n) xs
next_one [] zero = refl
next_one [] (suc n) = refl
next_one (x ∷ xs) zero = refl
next_one (x ∷ xs) (suc n) = next_one xs n

next_behind : {A : Type 0} (xs : List A) (n : ℕ) → drop 1 (drop n xs) ≡ drop (n + 1) xs
next_behind xs n = next_one xs n ∙ ap (λ k. drop k xs) (sym (add-one n))

-- items with what another list has at their places
abbrev along : {A C : Type 0} (line : A → C → Words) (d : C) → List A → List C → List Words
along line d [] cells = []
along line d (x ∷ xs) cells = line x (get_or cells 0 d) ∷ along line d xs (drop 1 cells)

at_places : {A C : Type 0} (line : A → C → Words) (d : C) (xs : List A) (cells : List C) (n : ℕ)
    → along line d xs (drop n cells) ≡ map (λ p. line p.1 (get_or cells p.0 d)) (enumerate_from n xs)
at_places line d [] cells n = refl
at_places line d (x ∷ xs) cells n =
    ap₂ (λ l ls. l ∷ ls) (ap (line x) (first_behind cells n d)) (ap (along line d xs) (next_behind cells n) ∙ at_places line d xs cells (n + 1))

-- ---- nodes and transformers

nodes_along : (names : List (List ℕ)) (cells : List (Option Ends)) → node_lines names cells ≡ along node_line None names cells
nodes_along [] cells = refl
nodes_along (name ∷ names) cells = ap (λ ls. node_line name (first_cell cells) ∷ ls) (nodes_along names (drop 1 cells))

transformers_along : (line : Transformer → Ends → Words) (ts : List Transformer) (cells : List Ends) → per_transformer line ts cells ≡ along line zero_ends ts cells
transformers_along line [] cells = refl
transformers_along line (t ∷ ts) cells = ap (λ ls. line t (first_ends cells) ∷ ls) (transformers_along line ts (drop 1 cells))

-- ---- rows

-- words with the interval that they are shown with
abbrev with_cell : Words → Option Ends → Words
with_cell head cell = head ++ cell_words (codes "open") cell

rows_along : (rows : List ItemRow) (cells : List (Option Ends)) → unblocked_lines rows (row_lines rows cells) ≡ along with_cell None (heads rows) cells
rows_along [] cells = refl
rows_along (row ∷ rows) cells =
    elim row.blocked as (λ b.
    map (λ p. p.1) (if not b then (row, item_row_words row ++ shown_words b cells) ∷ filter (λ p. not p.0.blocked) (zip rows (row_lines rows (left_behind b cells)))
    else filter (λ p. not p.0.blocked) (zip rows (row_lines rows (left_behind b cells))))
    ≡ along with_cell None (map item_row_words (if not b then row ∷ filter (λ r. not r.blocked) rows else filter (λ r. not r.blocked) rows)) cells) [
      | true ↦ rows_along rows cells
      | false ↦ ap (λ ls. with_cell (item_row_words row) (first_cell cells) ∷ ls) (rows_along rows (drop 1 cells))
    ]

-- each row has a line
pub row_count : (rows : List ItemRow) (cells : List (Option Ends)) → length (row_lines rows cells) ≡ length rows
row_count [] cells = refl
row_count (row ∷ rows) cells = ap suc (row_count rows (left_behind row.blocked cells))

blocked_said : (rows : List ItemRow) (cells : List (Option Ends)) → AllByRecursion (λ p. IsTrue p.0.blocked → p.1 ≡ item_row_words p.0 ++ codes "blocked" ∷ []) (zip rows (row_lines rows cells))
blocked_said [] cells = tt
blocked_said (row ∷ rows) cells = (λ is. ap (λ b. item_row_words row ++ shown_words b cells) is, blocked_said rows (left_behind row.blocked cells))

named_along : (f : Element → Words) (es : List Element) (cells : List (Option Ends)) → along with_cell None (map f es) cells ≡ along (λ e. with_cell (f e)) None es cells
named_along f [] cells = refl
named_along f (e ∷ es) cells = ap (λ ls. with_cell (f e) (first_cell cells) ∷ ls) (named_along f es (drop 1 cells))

elements_along : (c : Lists) (cells : List (Option Ends))
    → unblocked_lines (item_rows_of c) (row_lines (item_rows_of c) cells) ≡ map (λ p. with_cell (element_words c p.1) (get_or cells p.0 None)) (enumerate_from 0 (elements_of c).list)
elements_along c cells =
    rows_along (item_rows_of c) cells
    ∙ ap (λ hs. along with_cell None hs cells) (sym (elements_named c))
    ∙ named_along (element_words c) (elements_of c).list cells
    ∙ at_places (λ e. with_cell (element_words c e)) None (elements_of c).list cells 0

pub lines_show_places : LinesShowPlaces
lines_show_places case view = record {
  nodes = nodes_along (node_names case) view.nodes ∙ at_places node_line None (node_names case) view.nodes 0;
  elements = elements_along case view.elements;
  row_count = row_count (item_rows_of case) view.elements;
  blocked = All-from_recursion _ _ (blocked_said (item_rows_of case) view.elements);
  effective = transformers_along (λ t e. effective_line t.name e) case.transformers view.effective
      ∙ at_places (λ t e. effective_line t.name e) zero_ends case.transformers view.effective 0;
}
