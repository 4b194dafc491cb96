-- The names of the items of the plan.
use Rattle.std.proofs.Common.{◌≡◌, ◌∙◌, ℕ, Some, None, zero, suc, ◌+◌, ◌<◌, List, [], ◌∷◌, ◌++◌, map, length, get_or, refl, sym, ap, arith, zero-add}
use Rattle.std.specs.List.{range_with_len, slice_get}
use Rattle.std.specs.Option.{option_map}
use Rattle.std.proofs.lemmas.Option.{slice_get-map, slice_get_within}
use Rattle.std.proofs.lemmas.List.{ext_get_or, length-map, map-append}
use Rattle.std.proofs.lemmas.List.FromFn.{length-map-range_with_len, get_or-map-range_with_len}
use Rattle.gic_model.specs.declared.parts.Item.TheVariants.{Line, Transformer}
use Rattle.gic_case.specs.declared.item.Line.{Line as LineRow}
use Rattle.gic_case.specs.declared.item.Transformer.{Transformer as TransformerRow}
use Rattle.gic_case.specs.Lists.{Lists}
use Rattle.gic_winding.specs.ElementList.{item_name}
use Rattle.gic_outage.specs.OutageText.{plan_names}

map_map : {A B C : Type 0} (f : B → C) (g : A → B) (xs : List A) → map f (map g xs) ≡ map (λ x. f (g x)) xs
map_map f g [] = refl
map_map f g (x ∷ xs) = ap (λ l. f (g x) ∷ l) (map_map f g xs)

-- a list is what stands at its places
all_places : (xs : List (List ℕ)) (n : ℕ) → length xs ≡ n → map (λ k. get_or xs k []) (range_with_len 0 n) ≡ xs
all_places xs n e =
    let size = length-map-range_with_len (λ k. get_or xs k []) 0 n in
    ext_get_or [] (map (λ k. get_or xs k []) (range_with_len 0 n)) xs (size ∙ sym e)
    (λ i h. get_or-map-range_with_len (λ k. get_or xs k []) 0 n i i [] (omega (arith, h, size)) (zero-add i))

module _ (case : Lists) where
  abbrev pub line_names : List (List ℕ)
  line_names = map (λ l. l.name) case.lines

  abbrev pub transformer_names : List (List ℕ)
  transformer_names = map (λ t. t.name) case.transformers

  named_lines : map (item_name case) (map Line (range_with_len 0 (length case.lines))) ≡ line_names
  named_lines = map_map (item_name case) Line (range_with_len 0 (length case.lines)) ∙ all_places line_names (length case.lines) (length-map case.lines (λ l. l.name))

  named_transformers : map (item_name case) (map Transformer (range_with_len 0 (length case.transformers))) ≡ transformer_names
  named_transformers =
      map_map (item_name case) Transformer (range_with_len 0 (length case.transformers))
      ∙ all_places transformer_names (length case.transformers) (length-map case.transformers (λ t. t.name))

  -- those of the lines, and then those of the transformers
  pub in_turn : plan_names case ≡ line_names ++ transformer_names
  in_turn =
      map-append (item_name case) (map Line (range_with_len 0 (length case.lines))) (map Transformer (range_with_len 0 (length case.transformers)))
      ∙ ap (λ l. l ++ map (item_name case) (map Transformer (range_with_len 0 (length case.transformers)))) named_lines
      ∙ ap (λ l. line_names ++ l) named_transformers

-- what stands at a place of two lists
pub in_first : {A : Type 0} (xs ys : List A) (i : ℕ) → i < length xs → slice_get (xs ++ ys) i ≡ slice_get xs i
in_first [] ys i h = absurd (omega (arith, h))
in_first (x ∷ xs) ys zero h = refl
in_first (x ∷ xs) ys (suc i) h = in_first xs ys i (omega (arith, h))

pub in_second : {A : Type 0} (xs ys : List A) (i j : ℕ) → i ≡ length xs + j → slice_get (xs ++ ys) i ≡ slice_get ys j
in_second [] ys i j e = ap (λ k. slice_get ys k) (omega (arith, e))
in_second (x ∷ xs) ys zero j e = absurd (omega (arith, e))
in_second (x ∷ xs) ys (suc i) j e = in_second xs ys i j (omega (arith, e))

module _ (case : Lists) where
  name_at : (place : ℕ) → slice_get (plan_names case) place ≡ slice_get (line_names case ++ transformer_names case) place
  name_at place = ap (λ l. slice_get l place) (in_turn case)

  -- the name at a place of the plan, where a line stands there
  pub name_of_line : (place : ℕ) (row : LineRow) → slice_get case.lines place ≡ Some row → slice_get (plan_names case) place ≡ Some row.name
  name_of_line place row e =
      name_at place
      ∙ in_first (line_names case) (transformer_names case) place (omega (arith, slice_get_within case.lines place row e, length-map case.lines (λ l. l.name)))
      ∙ slice_get-map (λ l. l.name) case.lines place
      ∙ ap (λ o. option_map (λ l. l.name) o) e

  past_lines : (place next : ℕ) → place ≡ length case.lines + next → slice_get (plan_names case) place ≡ option_map (λ t. t.name) (slice_get case.transformers next)
  past_lines place next e =
      name_at place
      ∙ in_second (line_names case) (transformer_names case) place next (omega (arith, e, length-map case.lines (λ l. l.name)))
      ∙ slice_get-map (λ t. t.name) case.transformers next

  -- where a transformer stands there
  pub name_of_transformer : (place next : ℕ) (row : TransformerRow) → place ≡ length case.lines + next → slice_get case.transformers next ≡ Some row → slice_get (plan_names case) place ≡ Some row.name
  name_of_transformer place next row e f = past_lines place next e ∙ ap (λ o. option_map (λ t. t.name) o) f

  -- and past the last
  pub no_name : (place next : ℕ) → place ≡ length case.lines + next → slice_get case.transformers next ≡ None → slice_get (plan_names case) place ≡ None
  no_name place next e f = past_lines place next e ∙ ap (λ o. option_map (λ t. t.name) o) f
