-- The rows of a case that aren't blocked are named as its elements, in their order.
use Rattle.std.proofs.Common.{◌≡◌, ◌∙◌, ℕ, ◌+◌, ◌<◌, ◌≤◌, true, false, Option, Some, None, List, [], ◌∷◌, ◌++◌, map, not, length, drop, get_or, refl, sym, ap, ap₂, arith}
use Rattle.std.proofs.lemmas.List.{get_or-map, length-map, map-append}
use Rattle.std.proofs.lemmas.List.Elements.{filter-append}
use Rattle.std.proofs.lemmas.Option.{none-some, same_Some, slice_get-map}
use Rattle.std.specs.Prelude.{if◌then◌else◌, slice_get}
use Rattle.std.specs.Option.{option_map, option_to_list}
use Rattle.gic_case.proofs.SoundWindings.{few_windings}
use Rattle.std.specs.List.{enumerate_from, filter, flat_map}
use Rattle.gic_case.specs.declared.item.Line.{Line}
use Rattle.gic_case.specs.declared.item.Neutral.{Neutral}
use Rattle.gic_case.specs.declared.item.Neutral.TheVariants as devices
use Rattle.gic_case.specs.declared.item.Transformer.{Transformer}
use Rattle.gic_case.specs.declared.winding.Winding.{Winding}
use Rattle.gic_case.specs.Lists.{Lists, grid_of, neutrals_of}
use Rattle.gic_case.specs.Windings.{windings_of}
use Rattle.gic_model.specs.declared.parts.Element.{Element}
use Rattle.gic_model.specs.declared.parts.Item.TheVariants as item
use Rattle.gic_model.specs.declared.parts.Role.TheVariants as role
use Rattle.gic_winding.specs.ElementList.{all_windings_of, earthing_of, earthings_of, elements_of, item_name, line, line_of, lines_of, resistor_of, resistors_of, role_of, winding_elements}
use Rattle.gic_report.specs.SharedLines.{Words}
use Rattle.gic_report.specs.declared.rows.ItemRow.{ItemRow}
use Rattle.gic_report.specs.ItemText.{all_ground_rows, all_line_rows, all_neutral_rows, all_winding_rows, ground_rows, line_row, named_as, neutral_rows, item_row_words, item_row_of, item_rows_of, winding_rows}
use Rattle.gic_report.specs.Places.{element_words}
use Rattle.gic_report.proofs.ListParts.{drop_first}
use Rattle.gic_report.proofs.NeutralNames.{transformers_of_neutrals}

-- the row of the winding at a place
pub row_at : (name : List ℕ) (ws : List Winding) (place : ℕ) → slice_get (winding_rows name ws) place ≡ option_map (λ w. item_row_of (role_of w.role) name false) (slice_get ws place)
row_at name ws place = slice_get-map (λ w. item_row_of (role_of w.role) name false) ws place

few_rows : (name : List ℕ) (t : Transformer) → length (winding_rows name (windings_of t)) ≤ 3
few_rows name t = omega (arith, length-map (windings_of t) (λ w. item_row_of (role_of w.role) name false), few_windings t.high_volts t.kind)

no_first : (rows : List ItemRow) → None ≡ slice_get rows 0 → rows ≡ []
no_first [] none = refl
no_first (r ∷ rows) none = absurd (none-some r none)

some_first : (rows : List ItemRow) (x : ItemRow) → length rows ≤ 3 → Some x ≡ slice_get rows 0 → rows ≡ x ∷ (option_to_list (slice_get rows 1) ++ option_to_list (slice_get rows 2))
some_first [] x few first = absurd (none-some x (sym first))
some_first (r ∷ []) x few first = ap (λ y. y ∷ []) (sym (same_Some x r first))
some_first (r ∷ s ∷ []) x few first = ap (λ y. y ∷ s ∷ []) (sym (same_Some x r first))
some_first (r ∷ s ∷ t ∷ []) x few first = ap (λ y. y ∷ s ∷ t ∷ []) (sym (same_Some x r first))
some_first (r ∷ s ∷ t ∷ u ∷ rows) x few first = absurd (omega arith)

-- the rows of a transformer's windings, by the first of them
pub no_rows : (name : List ℕ) (t : Transformer) → None ≡ slice_get (winding_rows name (windings_of t)) 0 → winding_rows name (windings_of t) ≡ []
no_rows name t none = no_first (winding_rows name (windings_of t)) none

pub three_rows : (name : List ℕ) (t : Transformer) (x : ItemRow) → Some x ≡ slice_get (winding_rows name (windings_of t)) 0
    → winding_rows name (windings_of t) ≡ x ∷ (option_to_list (slice_get (winding_rows name (windings_of t)) 1) ++ option_to_list (slice_get (winding_rows name (windings_of t)) 2))
three_rows name t x first = some_first (winding_rows name (windings_of t)) x (few_rows name t) first

-- what names the rows that aren't blocked
abbrev pub heads : List ItemRow → List Words
heads rows = map item_row_words (filter (λ r. not r.blocked) rows)

heads_append : (xs ys : List ItemRow) → heads (xs ++ ys) ≡ heads xs ++ heads ys
heads_append xs ys = ap (map item_row_words) (filter-append (λ r. not r.blocked) xs ys) ∙ map-append item_row_words (filter (λ r. not r.blocked) xs) (filter (λ r. not r.blocked) ys)

-- of two lists that are joined, where the parts are so
both_named : {A : Type 0} (f : A → Words) (xs ys : List A) (rows others : List ItemRow) → map f xs ≡ heads rows → map f ys ≡ heads others → map f (xs ++ ys) ≡ heads (rows ++ others)
both_named f xs ys rows others p q = map-append f xs ys ∙ ap₂ (λ k l. k ++ l) p q ∙ sym (heads_append rows others)

-- parts that are named as the rows of their items
parts_named : {A : Type 0} (f : Element → Words) (part : ℕ × A → List Element) (rows : A → List ItemRow) (xs : List A)
    → ((n : ℕ) (x : A) → n < length xs → ((d : A) → get_or xs n d ≡ x) → map f (part (n, x)) ≡ heads (rows x))
    → (n : ℕ) (rest : List A) → drop n xs ≡ rest → map f (flat_map part (enumerate_from n rest)) ≡ heads (flat_map rows rest)
parts_named f part rows xs each n [] e = refl
parts_named f part rows xs each n (x ∷ rest) e =
    let first = drop_first xs n x rest e in
    both_named f (part (n, x)) (flat_map part (enumerate_from (n + 1) rest)) (rows x) (flat_map rows rest)
    (each n x first.0 first.1) (parts_named f part rows xs each (n + 1) rest first.2)

module _ (c : Lists) where
  abbrev said : Element → Words
  said = element_words c

  ground_named : (n : ℕ) (name : List ℕ) (ground : Option ℕ) → item_name c (item.Ground n) ≡ name → map said (earthing_of n ground) ≡ heads (ground_rows name ground)
  ground_named n name None e = refl
  ground_named n name (Some ohm) e = ap (λ w. named_as role.Ground w ∷ []) e

  line_named : (first n : ℕ) (l : Line) → item_name c (item.Line n) ≡ l.name → map said (line_of first n l) ≡ heads (line_row l ∷ [])
  line_named first n l e =
      elim l.blocked as (λ b. map said (if b then [] else (line n (first + l.from) (first + l.to) l.resistance ∷ [])) ≡ map item_row_words (if not b then line_row l ∷ [] else []))
      [ true ↦ refl | false ↦ ap (λ w. named_as role.Line w ∷ []) e ]

  winding_named : (first n neutral : ℕ) (name : List ℕ) (ws : List Winding) → item_name c (item.Transformer n) ≡ name → map said (winding_elements first n neutral ws) ≡ heads (winding_rows name ws)
  winding_named first n neutral name [] e = refl
  winding_named first n neutral name (w ∷ ws) e = ap₂ (λ x xs. named_as (role_of w.role) x ∷ xs) e (winding_named first n neutral name ws e)

  neutral_named : (n neutral grid : ℕ) (name : List ℕ) (device : Option Neutral) → item_name c (item.Neutral n) ≡ name → map said (resistor_of n neutral grid device) ≡ heads (neutral_rows name device)
  neutral_named n neutral grid name None e = refl
  neutral_named n neutral grid name (Some (devices.Resistor ohm)) e = ap (λ w. named_as role.Neutral w ∷ []) e
  neutral_named n neutral grid name (Some devices.Blocked) e = refl

  -- the name of the transformer at a place
  transformer_named : (n : ℕ) (p : ℕ × Transformer) → n < length (neutrals_of c) → ((d : ℕ × Transformer) → get_or (neutrals_of c) n d ≡ p) → get_or (map (λ t. t.name) c.transformers) n [] ≡ p.1.name
  transformer_named n p h at =
      ap (λ ts. get_or (map (λ t. t.name) ts) n []) (sym (transformers_of_neutrals c))
      ∙ get_or-map (λ t. t.name) (map (λ q. q.1) (neutrals_of c)) n p.1 [] (omega (arith, h, length-map (neutrals_of c) (λ q. q.1)))
      ∙ ap (λ t. t.name) (get_or-map (λ q. q.1) (neutrals_of c) n p p.1 h)
      ∙ ap (λ q. q.1.name) (at p)

  single_rows : (ls : List Line) → flat_map (λ l. line_row l ∷ []) ls ≡ all_line_rows ls
  single_rows [] = refl
  single_rows (l ∷ ls) = ap (λ rs. line_row l ∷ rs) (single_rows ls)

  same_parts : (rows : Transformer → List ItemRow) (ps : List (ℕ × Transformer)) → flat_map (λ p. rows p.1) ps ≡ flat_map rows (map (λ p. p.1) ps)
  same_parts rows [] = refl
  same_parts rows (p ∷ ps) = ap (λ rs. rows p.1 ++ rs) (same_parts rows ps)

  grounds_named : map said (earthings_of c) ≡ heads (all_ground_rows c.substations)
  grounds_named =
      parts_named said (λ p. earthing_of p.0 p.1.ground) (λ s. ground_rows s.name s.ground) c.substations
      (λ n s h at. ground_named n s.name s.ground (get_or-map (λ s. s.name) c.substations n s [] h ∙ ap (λ s. s.name) (at s))) 0 c.substations refl

  lines_named : map said (lines_of c) ≡ heads (all_line_rows c.lines)
  lines_named =
      parts_named said (λ p. line_of (length c.substations) p.0 p.1) (λ l. line_row l ∷ []) c.lines
      (λ n l h at. line_named (length c.substations) n l (get_or-map (λ l. l.name) c.lines n l [] h ∙ ap (λ l. l.name) (at l))) 0 c.lines refl
      ∙ ap heads (single_rows c.lines)

  windings_named : map said (all_windings_of c) ≡ heads (all_winding_rows c.transformers)
  windings_named =
      parts_named said (λ p. winding_elements (length c.substations) p.0 p.1.0 (windings_of p.1.1)) (λ p. winding_rows p.1.name (windings_of p.1)) (neutrals_of c)
      (λ n p h at. winding_named (length c.substations) n p.0 p.1.name (windings_of p.1) (transformer_named n p h at)) 0 (neutrals_of c) refl
      ∙ ap heads (same_parts (λ t. winding_rows t.name (windings_of t)) (neutrals_of c) ∙ ap (flat_map (λ t. winding_rows t.name (windings_of t))) (transformers_of_neutrals c))

  neutrals_named : map said (resistors_of c) ≡ heads (all_neutral_rows c.transformers)
  neutrals_named =
      parts_named said (λ p. resistor_of p.0 p.1.0 (grid_of c.buses p.1.1) p.1.1.neutral) (λ p. neutral_rows p.1.name p.1.neutral) (neutrals_of c)
      (λ n p h at. neutral_named n p.0 (grid_of c.buses p.1) p.1.name p.1.neutral (transformer_named n p h at)) 0 (neutrals_of c) refl
      ∙ ap heads (same_parts (λ t. neutral_rows t.name t.neutral) (neutrals_of c) ∙ ap (flat_map (λ t. neutral_rows t.name t.neutral)) (transformers_of_neutrals c))

  -- the elements of a case are named as its rows that aren't blocked
  pub elements_named : map said (elements_of c).list ≡ heads (item_rows_of c)
  unfolding elements_of
  elements_named =
      both_named said (earthings_of c) (lines_of c ++ (all_windings_of c ++ resistors_of c)) (all_ground_rows c.substations)
      (all_line_rows c.lines ++ (all_winding_rows c.transformers ++ all_neutral_rows c.transformers)) grounds_named
      (both_named said (lines_of c) (all_windings_of c ++ resistors_of c) (all_line_rows c.lines) (all_winding_rows c.transformers ++ all_neutral_rows c.transformers) lines_named
      (both_named said (all_windings_of c) (resistors_of c) (all_winding_rows c.transformers) (all_neutral_rows c.transformers) windings_named neutrals_named))
