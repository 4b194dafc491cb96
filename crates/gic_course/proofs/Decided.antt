-- What the rows of a list say of an item, part by part.
use Rattle.std.proofs.Common.{◌≡◌, ℕ, zero, suc, Bool, true, false, cond, not, List, [], ◌∷◌, ◌++◌, reverse, take, map, Option, Some, None, refl, ap, ◌∙◌, inl, inr}
use Rattle.std.specs.List.{find}
use Rattle.std.specs.Option.{option_map_or, option_or}
use Rattle.std.proofs.lemmas.Bool.{cases_Bool}
use Rattle.std.proofs.lemmas.List.{reverse-append}
use Rattle.std.proofs.lemmas.List.Folds.{find-append}
use Rattle.gic_model.specs.declared.parts.Item.{Item}
use Rattle.gic_model.specs.declared.parts.Switching.{Switching}
use Rattle.gic_model.specs.Standing.{is_item}
use Rattle.gic_net.proofs.Switched.{decided, decided-cons}

-- a row that closes what this row names
abbrev pub closing : Switching → Switching
closing row = record row { opens = false }

-- rows that close what these rows name
abbrev pub closings : List Switching → List Switching
closings rows = map closing rows

option_chain : (o q : Option Switching) (before : Bool) →
    option_map_or (λ r. not r.opens) (option_or o q) before ≡ option_map_or (λ r. not r.opens) o (option_map_or (λ r. not r.opens) q before)
option_chain (Some r) q before = refl
option_chain None q before = refl

-- the later rows decide, and where none of them names the item the earlier ones
pub decided-append : (before : Bool) (item : Item) (xs ys : List Switching) → decided before item (xs ++ ys) ≡ decided (decided before item xs) item ys
decided-append before item xs ys =
    ap (λ zs. option_map_or (λ r. not r.opens) (find (λ r. is_item r.item item) zs) before) (reverse-append xs ys) ∙
    ap (λ o. option_map_or (λ r. not r.opens) o before) (find-append (λ r. is_item r.item item) (reverse ys) (reverse xs)) ∙
    option_chain (find (λ r. is_item r.item item) (reverse ys)) (find (λ r. is_item r.item item) (reverse xs)) before

stays_true : (b : Bool) → cond b true true ≡ true
stays_true true = refl
stays_true false = refl

all_closed : (item : Item) (rows : List Switching) → decided true item (closings rows) ≡ true
all_closed item [] = refl
all_closed item (row ∷ rows) =
    decided-cons true item (closing row) (closings rows) ∙ ap (λ b. decided b item (closings rows)) (stays_true (is_item row.item item)) ∙ all_closed item rows

-- where an item stands as the first rows say, it stands once all that the rows name is closed
pub closed_again : (before : Bool) (item : Item) (rows : List Switching) (n : ℕ) → before ≡ decided true item (take n rows) → decided before item (closings rows) ≡ true
closed_again before item [] zero h = h
closed_again before item [] (suc n) h = h
closed_again before item (row ∷ rows) zero h = ap (λ b. decided b item (closings (row ∷ rows))) h ∙ all_closed item (row ∷ rows)
closed_again before item (row ∷ rows) (suc n) h =
    decided-cons before item (closing row) (closings rows) ∙
    elim (cases_Bool (is_item row.item item)) [
      | inl is ↦ ap (λ s. decided (cond s true before) item (closings rows)) is ∙ all_closed item rows
      | inr is ↦ ap (λ s. decided (cond s true before) item (closings rows)) is ∙
          closed_again before item rows n (h ∙ decided-cons true item row (take n rows) ∙ ap (λ s. decided (cond s (not row.opens) true) item (take n rows)) is)
    ]
