-- Items that are pushed in the order of a case.
use Rattle.std.proofs.Common.{◌≡◌, ℕ, ◌+◌, List, [], ◌∷◌, ◌++◌, map, refl, sym, ap, ◌∙◌, arith}
use Rattle.std.proofs.lemmas.List.FromFn.{map-range_with_len_more}
use Rattle.std.specs.List.{range_with_len}
use Rattle.gic_model.specs.declared.parts.Item.{Item}
use Rattle.gic_model.specs.declared.parts.Item.TheVariants.{Line, Transformer}
use Rattle.gic_outage.specs.Plan.{in_order}

-- one line more
pub line_more : (items : List Item) (n : ℕ) → items ≡ map Line (range_with_len 0 n) → items ++ Line n ∷ [] ≡ map Line (range_with_len 0 (n + 1))
line_more items n so_far = ap (λ xs. xs ++ Line n ∷ []) so_far ∙ sym (map-range_with_len_more Line 0 n n (omega arith))

none_more : (xs : List Item) → xs ≡ xs ++ []
none_more [] = refl
none_more (x ∷ xs) = ap (λ ys. x ∷ ys) (none_more xs)

-- all lines
pub lines_done : (items : List Item) (n lines : ℕ) → n ≡ lines → items ≡ map Line (range_with_len 0 n) → items ≡ in_order lines 0
lines_done items n lines end so_far = so_far ∙ ap (λ m. map Line (range_with_len 0 m)) end ∙ none_more (map Line (range_with_len 0 lines))

regrouped : (xs ys : List Item) (x : Item) → (xs ++ ys) ++ x ∷ [] ≡ xs ++ (ys ++ x ∷ [])
regrouped [] ys x = refl
regrouped (y ∷ xs) ys x = ap (λ zs. y ∷ zs) (regrouped xs ys x)

-- one transformer more
pub transformer_more : (items : List Item) (lines n : ℕ) → items ≡ in_order lines n → items ++ Transformer n ∷ [] ≡ in_order lines (n + 1)
transformer_more items lines n so_far =
    ap (λ xs. xs ++ Transformer n ∷ []) so_far ∙
    regrouped (map Line (range_with_len 0 lines)) (map Transformer (range_with_len 0 n)) (Transformer n) ∙
    ap (λ xs. map Line (range_with_len 0 lines) ++ xs) (sym (map-range_with_len_more Transformer 0 n n (omega arith)))
