-- As many linear equations as unknowns, or fewer: they have a solution over some denominator, or every form is 0 somewhere else than at all zeros.
use Rattle.std.proofs.Common.{◌≡◌, ◌⊎◌, ℕ, zero, suc, ◌≤◌, ◌==◌, cond, List, [], ◌∷◌, length, ℤ, pos, negsuc, ◌+ℤ◌, ◌*ℤ◌, neg_ℤ, arith, refl, ap, sym, subst, ◌∙◌, inl, inr, ⊎_elim, eq-eqb}
use Rattle.std.specs.List.{AllByRecursion}
use Rattle.std.proofs.lemmas.Bool.{ne_eqb}
use Rattle.gic_base.proofs.Each.{weaker}
use Rattle.gic_exists.specs.Linear.{mix, Equation, IsSolvedBy, IsZeroAt, Solved, Vanishing}
use Rattle.gic_exists.proofs.Mixing.{none_or_some, mix_swap, pivot_row, other_row, pivot_none, other_none, mix_nothing, mix_first, product_not_0, turned}

-- 1 at the place k
abbrev pub unit : ℕ → ℕ → ℤ
unit k m = cond (m == k) (pos 1) (pos 0)

unit_here : (k : ℕ) → unit k k ≡ pos 1
unit_here k = ap (λ b. cond b (pos 1) (pos 0)) (eq-eqb k k refl)

unit_else : (k m : ℕ) → (m ≡ k → ⊥) → unit k m ≡ pos 0
unit_else k m differ = ap (λ b. cond b (pos 1) (pos 0)) (ne_eqb m k differ)

abbrev insert_at : ℕ → Equation → List Equation → List Equation
insert_at zero r rows = r ∷ rows
insert_at (suc i) r [] = r ∷ []
insert_at (suc i) r (x ∷ rows) = x ∷ insert_at i r rows

inserted : (P : Equation → Type 0) (i : ℕ) (r : Equation) (rows : List Equation) → P r → AllByRecursion P rows → AllByRecursion P (insert_at i r rows)
inserted P zero r rows h k = (h, k)
inserted P (suc i) r [] h k = (h, tt)
inserted P (suc i) r (x ∷ rows) h k = (k.0, inserted P i r rows h k.1)

length-insert_at : (i : ℕ) (r : Equation) (rows : List Equation) → length (insert_at i r rows) ≡ suc (length rows)
length-insert_at zero r rows = refl
length-insert_at (suc i) r [] = refl
length-insert_at (suc i) r (x ∷ rows) = ap suc (length-insert_at i r rows)

-- numbers below the place n that solve the equations over a denominator other than 0
record SolvedBelow (n : ℕ) (rows : List Equation) : Type 0 where
  at : ℕ → ℤ
  over : ℤ
  over_not_0 : over ≡ pos 0 → ⊥
  none_from : (m : ℕ) → n ≤ m → at m ≡ pos 0
  holds : AllByRecursion (IsSolvedBy at over) rows

-- a row with a coefficient other than 0 at the place k, and the other rows
record Pivot (k : ℕ) (rows : List Equation) : Type 0 where
  row : Equation
  rest : List Equation
  index : ℕ
  is : rows ≡ insert_at index row rest
  not_0 : row.form (unit k) ≡ pos 0 → ⊥

find_pivot : (k : ℕ) (rows : List Equation) → AllByRecursion (IsZeroAt (unit k)) rows ⊎ Pivot k rows
find_pivot k [] = inl tt
find_pivot k (r ∷ rows) = by (none_or_some (r.form (unit k))) (find_pivot k rows)
  where
    by : (r.form (unit k) ≡ pos 0) ⊎ (r.form (unit k) ≡ pos 0 → ⊥) → AllByRecursion (IsZeroAt (unit k)) rows ⊎ Pivot k rows →
        AllByRecursion (IsZeroAt (unit k)) (r ∷ rows) ⊎ Pivot k (r ∷ rows)
    by (inr some) later = inr (record { row = r; rest = rows; index = 0; is = refl; not_0 = some })
    by (inl none) (inl all) = inl (none, all)
    by (inl none) (inr p) = inr (record { row = p.row; rest = r ∷ p.rest; index = suc p.index; is = ap (λ xs. r ∷ xs) p.is; not_0 = p.not_0 })

-- a row less so much of the pivot's row that the unknown k is gone, both multiplied to stay whole
abbrev eliminated : ℕ → Equation → Equation → Equation
eliminated k p r = record {
  form = λ x. mix (p.form (unit k)) (neg_ℤ (r.form (unit k))) (r.form x) (p.form x);
  right = mix (p.form (unit k)) (neg_ℤ (r.form (unit k))) r.right p.right;
  linear = λ c d x y. ap (λ z. mix (p.form (unit k)) (neg_ℤ (r.form (unit k))) z (p.form (λ m. mix c d (x m) (y m)))) (r.linear c d x y) ∙
      ap (λ z. mix (p.form (unit k)) (neg_ℤ (r.form (unit k))) (mix c d (r.form x) (r.form y)) z) (p.linear c d x y) ∙
      mix_swap (p.form (unit k)) (neg_ℤ (r.form (unit k))) c d (r.form x) (r.form y) (p.form x) (p.form y);
}

abbrev all_eliminated : ℕ → Equation → List Equation → List Equation
all_eliminated k p [] = []
all_eliminated k p (r ∷ rows) = eliminated k p r ∷ all_eliminated k p rows

length-all_eliminated : (k : ℕ) (p : Equation) (rows : List Equation) → length (all_eliminated k p rows) ≡ length rows
length-all_eliminated k p [] = refl
length-all_eliminated k p (r ∷ rows) = ap suc (length-all_eliminated k p rows)

back : (P Q : Equation → Type 0) (k : ℕ) (p : Equation) → ((r : Equation) → P (eliminated k p r) → Q r) → (rows : List Equation) → AllByRecursion P (all_eliminated k p rows) → AllByRecursion Q rows
back P Q k p leads [] h = tt
back P Q k p leads (r ∷ rows) h = (leads r h.0, back P Q k p leads rows h.1)

-- below suc n there is nothing from suc n on
none_past : (n : ℕ) (c d : ℤ) (x : ℕ → ℤ) → ((m : ℕ) → n ≤ m → x m ≡ pos 0) → (m : ℕ) → suc n ≤ m → mix c d (x m) (unit n m) ≡ pos 0
none_past n c d x none m h = mix_nothing c d (x m) (unit n m) (none m (omega arith)) (unit_else n m (λ is. omega arith))

-- from a solution of the other rows
solved_back : (n : ℕ) (rows : List Equation) (p : Pivot n rows) → SolvedBelow n (all_eliminated n p.row p.rest) → SolvedBelow (suc n) rows
solved_back n rows p s = record {
  at = x;
  over = a *ℤ s.over;
  over_not_0 = product_not_0 a s.over p.not_0 s.over_not_0;
  none_from = none_past n a t s.at s.none_from;
  holds = subst (λ (xs : List Equation). AllByRecursion (IsSolvedBy x (a *ℤ s.over)) xs) (sym p.is) (inserted (IsSolvedBy x (a *ℤ s.over)) p.index p.row p.rest at_pivot at_others);
}
  where
    a : ℤ
    a = p.row.form (unit n)

    t : ℤ
    t = s.over *ℤ p.row.right +ℤ neg_ℤ (p.row.form s.at)

    x : ℕ → ℤ
    x m = mix a t (s.at m) (unit n m)

    at_pivot : IsSolvedBy x (a *ℤ s.over) p.row
    at_pivot = p.row.linear a t s.at (unit n) ∙ pivot_row a (p.row.form s.at) s.over p.row.right

    at_others : AllByRecursion (IsSolvedBy x (a *ℤ s.over)) p.rest
    at_others =
        back (IsSolvedBy s.at s.over) (IsSolvedBy x (a *ℤ s.over)) n p.row
        (λ r h. r.linear a t s.at (unit n) ∙ other_row a (r.form (unit n)) (r.form s.at) (p.row.form s.at) s.over p.row.right r.right h) p.rest s.holds

-- from numbers at which the forms of the other rows are 0
vanishing_back : (n : ℕ) (rows : List Equation) (p : Pivot n rows) → Vanishing n (all_eliminated n p.row p.rest) → Vanishing (suc n) rows
vanishing_back n rows p v = record {
  at = x;
  place = v.place;
  below = let small = v.below in omega arith;
  not_0 = λ is. product_not_0 a (v.at v.place) p.not_0 v.not_0 (sym (mix_first a t (v.at v.place) (unit n v.place) (unit_else n v.place (λ same. let small = v.below in omega arith))) ∙ is);
  none_from = none_past n a t v.at v.none_from;
  holds = subst (λ (xs : List Equation). AllByRecursion (IsZeroAt x) xs) (sym p.is) (inserted (IsZeroAt x) p.index p.row p.rest at_pivot at_others);
}
  where
    a : ℤ
    a = p.row.form (unit n)

    t : ℤ
    t = neg_ℤ (p.row.form v.at)

    x : ℕ → ℤ
    x m = mix a t (v.at m) (unit n m)

    at_pivot : IsZeroAt x p.row
    at_pivot = p.row.linear a t v.at (unit n) ∙ pivot_none a (p.row.form v.at)

    at_others : AllByRecursion (IsZeroAt x) p.rest
    at_others =
        back (IsZeroAt v.at) (IsZeroAt x) n p.row
        (λ r h. r.linear a t v.at (unit n) ∙ other_none a (r.form (unit n)) (r.form v.at) (p.row.form v.at) h) p.rest v.holds

-- with a column of zeros
zero_column : (n : ℕ) (rows : List Equation) → AllByRecursion (IsZeroAt (unit n)) rows → Vanishing (suc n) rows
zero_column n rows all = record {
  at = unit n;
  place = n;
  below = omega arith;
  not_0 = λ is. one_none (sym (unit_here n) ∙ is);
  none_from = λ m h. unit_else n m (λ is. omega arith);
  holds = all;
}
  where
    one_none : pos 1 ≡ pos 0 → ⊥
    one_none e = cc

below_or_vanishing : (n : ℕ) (rows : List Equation) → length rows ≤ n → SolvedBelow n rows ⊎ Vanishing n rows
below_or_vanishing zero [] few = inl (record { at = λ m. pos 0; over = pos 1; over_not_0 = λ is. cc; none_from = λ m h. refl; holds = tt })
below_or_vanishing zero (r ∷ rows) few = absurd (omega arith)
below_or_vanishing (suc n) rows few = by (below_or_vanishing n) (find_pivot n rows)
  where
    by : ((others : List Equation) → length others ≤ n → SolvedBelow n others ⊎ Vanishing n others) → AllByRecursion (IsZeroAt (unit n)) rows ⊎ Pivot n rows → SolvedBelow (suc n) rows ⊎ Vanishing (suc n) rows
    by smaller (inl all) = inr (zero_column n rows all)
    by smaller (inr p) =
        let size = ap length p.is ∙ length-insert_at p.index p.row p.rest in
        let same = length-all_eliminated n p.row p.rest in
        ⊎_elim (λ s. inl (solved_back n rows p s)) (λ v. inr (vanishing_back n rows p v)) (smaller (all_eliminated n p.row p.rest) (omega arith))

-- with all signs turned where the denominator is below 0
above_0 : (n : ℕ) (rows : List Equation) → SolvedBelow n rows → Solved rows
above_0 n rows s = by s.over refl
  where
    by : (z : ℤ) → s.over ≡ z → Solved rows
    by (pos zero) is = absurd (s.over_not_0 is)
    by (pos (suc d)) is = record {
      at = s.at;
      over = suc d;
      over_above_0 = omega arith;
      holds = subst (λ (z : ℤ). AllByRecursion (IsSolvedBy s.at z) rows) is s.holds;
    }
    by (negsuc d) is = record {
      at = λ m. mix (negsuc 0) (pos 0) (s.at m) (s.at m);
      over = suc d;
      over_above_0 = omega arith;
      holds = weaker (IsSolvedBy s.at (negsuc d)) (IsSolvedBy (λ m. mix (negsuc 0) (pos 0) (s.at m) (s.at m)) (pos (suc d)))
          (λ r h. r.linear (negsuc 0) (pos 0) s.at s.at ∙ turned d (r.form s.at) r.right h) rows (subst (λ (z : ℤ). AllByRecursion (IsSolvedBy s.at z) rows) is s.holds);
    }

pub solved_or_vanishing : (n : ℕ) (rows : List Equation) → length rows ≤ n → Solved rows ⊎ Vanishing n rows
solved_or_vanishing n rows few = ⊎_elim (λ s. inl (above_0 n rows s)) (λ v. inr v) (below_or_vanishing n rows few)
