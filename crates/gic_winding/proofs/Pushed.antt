-- Lists that grow item by item: what has been pushed and what is still to come are the whole.
use Rattle.std.proofs.Common.{◌≡◌, ℕ, ◌+◌, ◌<◌, ◌≤◌, List, ◌++◌, length, get_or, drop, ap, sym, ◌∙◌, append_assoc, add-one, drop-cons}
use Rattle.std.proofs.lemmas.List.{at_drop_all, append-nil}
use Rattle.std.specs.List.{flat_map, enumerate_from}

-- the parts of the items from this place on
abbrev pub parts_from : {X A : Type 0} → (ℕ × X → List A) → List X → ℕ → List A
parts_from part xs i = flat_map part (enumerate_from i (drop i xs))

-- one more item's part has been pushed
pub more_pushed : {X A : Type 0} (part : ℕ × X → List A) (xs : List X) (i : ℕ) (d : X) (old new whole : List A) → i < length xs
    → new ≡ old ++ part (i, get_or xs i d) → old ++ parts_from part xs i ≡ whole → new ++ parts_from part xs (i + 1) ≡ whole
more_pushed part xs i d old new whole within pushed before =
    let split : parts_from part xs i ≡ part (i, get_or xs i d) ++ parts_from part xs (i + 1) = rw (drop-cons xs i d within, add-one) in
    ap (λ l. l ++ parts_from part xs (i + 1)) pushed ∙ append_assoc old (part (i, get_or xs i d)) (parts_from part xs (i + 1)) ∙ ap (λ l. old ++ l) (sym split) ∙ before

-- nothing is still to come
pub all_pushed : {X A : Type 0} (part : ℕ × X → List A) (xs : List X) (i : ℕ) (list whole : List A) → length xs ≤ i → list ++ parts_from part xs i ≡ whole → list ≡ whole
all_pushed part xs i list whole past all =
    sym (append-nil list) ∙ sym (at_drop_all (λ rest. list ++ flat_map part (enumerate_from i rest)) xs i past) ∙ all
