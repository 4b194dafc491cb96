-- Rows whose places have marks, as they are gathered.
use Rattle.std.proofs.Common.{◌≡◌, ℕ, ◌<◌, List, [], length, get_or, set, arith, ap, sym, ◌∙◌, subst, inl, inr}
use Rattle.std.proofs.lemmas.Bool.{cases_eq}
use Rattle.std.proofs.lemmas.List.{get_or-set_same, get_or-set_other, get_or_default, length-set}
use Rattle.gic_model.specs.declared.parts.Element.{Element}
use Rattle.std.specs.Prelude.{Bool}
use Rattle.gic_net.specs.Row.{NodeRow, full_row, AreMarked, gathered}
use Rattle.gic_net.specs.Rows.{node_row_at}

-- a row that keeps its places takes the place of the old one
pub all_kept : (rows : List NodeRow) (i : ℕ) (r : NodeRow) → i < length rows → r.all ≡ (node_row_at rows i).all → (k : ℕ) → (node_row_at (set rows i r) k).all ≡ (node_row_at rows k).all
all_kept rows i r inside same k = elim (cases_eq k i) [
  | inl e ↦
      ap (λ n. (node_row_at (set rows i r) n).all) e ∙ ap (λ (x : NodeRow). x.all) (get_or-set_same rows i r (full_row []) inside) ∙ same ∙ ap (λ n. (node_row_at rows n).all) (sym e)
  | inr other ↦ ap (λ (x : NodeRow). x.all) (get_or-set_other rows i k r (full_row []) other)
]

-- the row that a read gives has marks
pub marked_at : (list : List Element) (opened : List Bool) (rows : List NodeRow) (i : ℕ) (d : NodeRow) → i < length rows → AreMarked list opened (node_row_at rows i).all → AreMarked list opened (get_or rows i d).all
marked_at list opened rows i d inside marked = subst (λ (x : NodeRow). AreMarked list opened x.all) (get_or_default rows i (full_row []) d inside) marked

-- and after another row was gathered
pub marked_after : (list : List Element) (opened : List Bool) (rows : List NodeRow) (i k : ℕ) (r d e : NodeRow) → i < length rows → k < length rows → r ≡ gathered list opened (get_or rows i e) →
    ((k : ℕ) → k < length rows → AreMarked list opened (node_row_at rows k).all) → AreMarked list opened (get_or (set rows i r) k d).all
marked_after list opened rows i k r d e inside within is marked =
    let same : r.all ≡ (node_row_at rows i).all = ap (λ (x : NodeRow). x.all) (is ∙ ap (gathered list opened) (get_or_default rows i e (full_row []) inside)) in
    marked_at list opened (set rows i r) k d (omega (arith, length-set rows i r))
    (subst (AreMarked list opened) (sym (all_kept rows i r inside same k)) (marked k within))
