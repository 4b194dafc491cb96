-- Where the steps of a storm begin.
use Rattle.std.proofs.Common.{◌≡◌, ℕ, zero, suc, ◌+◌, ◌-◌, ◌<◌, ◌≤◌, ◌==◌, List, [], ◌∷◌, ◌++◌, length, take, drop, get_or, Bool, true, false, cond, not, Some, None, refl, ap, ◌∙◌, arith, length-append}
use Rattle.std.proofs.Math.Seq.{take-length, take-append_seam, drop-append-add}
use Rattle.std.proofs.lemmas.List.{append-nil}
use Rattle.std.specs.List.{flat_map}
use Rattle.gic_storm.specs.Steps.{joined, steps_in, starts_from}
use Rattle.gic_storm.specs.declared.row.StormRow.{StormRow}

-- the places where lists begin that stand one after the other from n on
abbrev pub offsets : {X : Type 0} → ℕ → List (List X) → List ℕ
offsets n [] = []
offsets n (g ∷ gs) = n ∷ offsets (n + length g) gs

-- the lists one after the other
abbrev pub concat : {X : Type 0} → List (List X) → List X
concat gs = flat_map (λ g. g) gs

-- the first group begins with the row
pub head_of : (r : StormRow) (gs : List (List StormRow)) → (g : List StormRow) × (hs : List (List StormRow)) × (joined r gs ≡ (r ∷ g) ∷ hs)
head_of r [] = ([], [], refl)
head_of r ([] ∷ gs) = ([], [] ∷ gs, refl)
head_of r ((x ∷ g) ∷ gs) = by (r.time == x.time) refl
  where
    by : (b : Bool) → (r.time == x.time) ≡ b → (h : List StormRow) × (hs : List (List StormRow)) × (cond (r.time == x.time) ((r ∷ x ∷ g) ∷ gs) ((r ∷ []) ∷ (x ∷ g) ∷ gs) ≡ (r ∷ h) ∷ hs)
    by true e = (x ∷ g, gs, rw e refl)
    by false e = ([], (x ∷ g) ∷ gs, rw e refl)

-- a row before steps is a row before their rows
concat_joined : (r : StormRow) (gs : List (List StormRow)) → concat (joined r gs) ≡ r ∷ concat gs
concat_joined r [] = refl
concat_joined r ([] ∷ gs) = refl
concat_joined r ((x ∷ g) ∷ gs) = by (r.time == x.time) refl
  where
    by : (b : Bool) → (r.time == x.time) ≡ b → concat (cond (r.time == x.time) ((r ∷ x ∷ g) ∷ gs) ((r ∷ []) ∷ (x ∷ g) ∷ gs)) ≡ r ∷ ((x ∷ g) ++ concat gs)
    by true e = rw e refl
    by false e = rw e refl

-- and makes at most one step more
joined-length : (r : StormRow) (gs : List (List StormRow)) → length (joined r gs) ≤ suc (length gs)
joined-length r [] = omega arith
joined-length r ([] ∷ gs) = omega arith
joined-length r ((x ∷ g) ∷ gs) = by (r.time == x.time) refl
  where
    by : (b : Bool) → (r.time == x.time) ≡ b → length (cond (r.time == x.time) ((r ∷ x ∷ g) ∷ gs) ((r ∷ []) ∷ (x ∷ g) ∷ gs)) ≤ suc (suc (length gs))
    by true e = rw e (omega arith)
    by false e = rw e (omega arith)

-- the steps hold each row once, in order
pub concat_steps : (rows : List StormRow) → concat (steps_in rows) ≡ rows
concat_steps [] = refl
concat_steps (r ∷ rs) = concat_joined r (steps_in rs) ∙ ap (λ xs. r ∷ xs) (concat_steps rs)

-- the steps begin where the time changes
pub starts_law : (n : ℕ) (rows : List StormRow) → starts_from n None rows ≡ offsets n (steps_in rows)
starts_law n [] = refl
starts_law n (r ∷ []) = refl
starts_law n (r ∷ s ∷ rows) =
    let (g, gs, shape) = head_of s (steps_in rows) in
    after g gs shape (starts_law (n + 1) (s ∷ rows))
  where
    after : (g : List StormRow) (gs : List (List StormRow)) → joined s (steps_in rows) ≡ (s ∷ g) ∷ gs
        → starts_from (n + 1) None (s ∷ rows) ≡ offsets (n + 1) (joined s (steps_in rows))
        → starts_from n None (r ∷ s ∷ rows) ≡ offsets n (joined r (joined s (steps_in rows)))
    after g gs shape ih = rw shape (by (r.time == s.time) refl)
      where
        tail_of : {x y : ℕ} {xs ys : List ℕ} → x ∷ xs ≡ y ∷ ys → xs ≡ ys
        tail_of k = cc

        rest : starts_from (n + 1 + 1) (Some s.time) rows ≡ offsets (n + 1 + suc (length g)) gs
        rest = tail_of (rw shape at ih)

        sum : n + suc (suc (length g)) ≡ n + 1 + suc (length g)
        sum = omega arith

        by : (b : Bool) → (r.time == s.time) ≡ b
            → n ∷ cond (not (r.time == s.time)) ((n + 1) ∷ starts_from (n + 1 + 1) (Some s.time) rows) (starts_from (n + 1 + 1) (Some s.time) rows)
            ≡ offsets n (cond (r.time == s.time) ((r ∷ s ∷ g) ∷ gs) ((r ∷ []) ∷ (s ∷ g) ∷ gs))
        by true e = rw (e, sum, rest) refl
        by false e = rw (e, rest) refl

-- start and end are where the group at a place begins and ends
pub record IsCut {X : Type 0} (gs : List (List X)) (n k start end whole : ℕ) : Type 0 where
  pub after : n ≤ start
  pub ordered : start ≤ end
  pub within : end ≤ whole
  pub part : take (end - start) (drop (start - n) (concat gs)) ≡ get_or gs k []

-- the starts of neighbours cut the list at its parts
cut_law : {X : Type 0} (gs : List (List X)) (n k start end whole : ℕ) → whole ≡ n + length (concat gs) → k < length gs
    → start ≡ get_or (offsets n gs) k whole → end ≡ get_or (offsets n gs) (suc k) whole → IsCut gs n k start end whole
cut_law [] n k start end whole w h s e = absurd (omega arith)
cut_law {X} (g ∷ []) n zero start end whole w h s e =
    let size : end - start ≡ length (g ++ []) = omega arith in
    let none : start - n ≡ 0 = omega arith in
    record {
      after = omega arith;
      ordered = omega arith;
      within = omega arith;
      part = rw (size, none, take-length (g ++ []), append-nil g) refl;
    }
cut_law {X} (g ∷ h ∷ gs) n zero start end whole w k s e =
    let size : end - start ≡ length g = omega arith in
    let none : start - n ≡ 0 = omega arith in
    let long = length-append g (concat (h ∷ gs)) in
    record {
      after = omega arith;
      ordered = omega arith;
      within = omega arith;
      part = rw (size, none, take-append_seam g (concat (h ∷ gs))) refl;
    }
cut_law (g ∷ gs) n (suc k) start end whole w h s e =
    let long = length-append g (concat gs) in
    let rest = cut_law gs (n + length g) k start end whole (omega arith) (omega arith) s e in
    let later = rest.after in
    let skip : start - n ≡ length g + (start - (n + length g)) = omega arith in
    record {
      after = omega arith;
      ordered = rest.ordered;
      within = rest.within;
      part = rw (skip, drop-append-add g (concat gs) (start - (n + length g))) rest.part;
    }

-- there are as many starts as parts
pub offsets-length : {X : Type 0} (n : ℕ) (gs : List (List X)) → length (offsets n gs) ≡ length gs
offsets-length n [] = refl
offsets-length n (g ∷ gs) = ap suc (offsets-length (n + length g) gs)

-- a storm has a step for each start
pub steps_law : (rows : List StormRow) (starts : List ℕ) → starts ≡ starts_from 0 None rows → length starts ≡ length (steps_in rows)
steps_law rows starts h = ap length (h ∙ starts_law 0 rows) ∙ offsets-length 0 (steps_in rows)

-- the rows between two starts are a step
pub step_law : (rows : List StormRow) (starts : List ℕ) (number start end : ℕ) → starts ≡ starts_from 0 None rows → 1 ≤ number → number ≤ length (steps_in rows)
    → start ≡ get_or starts (number - 1) (length rows) → end ≡ get_or starts number (length rows)
    → (start ≤ end) × (end ≤ length rows) × (take (end - start) (drop start rows) ≡ get_or (steps_in rows) (number - 1) [])
step_law rows starts zero start end are low high s e = absurd (omega arith)
step_law rows starts (suc k) start end are low high s e =
    let all = concat_steps rows in
    let same = are ∙ starts_law 0 rows in
    let back : suc k - 1 ≡ k = omega arith in
    let from : start - 0 ≡ start = omega arith in
    let cut = cut_law (steps_in rows) 0 k start end (length rows) (omega (arith, ap length all)) high (s ∙ ap (λ i. get_or starts i (length rows)) back ∙ ap (λ xs. get_or xs k (length rows)) same) (e ∙ ap (λ xs. get_or xs (suc k) (length rows)) same) in
    (cut.ordered, cut.within, rw back (rw (all, from) at cut.part))

-- no more steps than rows
pub few_steps : (rows : List StormRow) → length (steps_in rows) ≤ length rows
few_steps [] = omega arith
few_steps (r ∷ rs) = let more = joined-length r (steps_in rs) in let few = few_steps rs in omega arith

-- a step at least where there is a row
pub some_step : (rows : List StormRow) → 1 ≤ length rows → 1 ≤ length (steps_in rows)
some_step [] h = absurd (omega arith)
some_step (r ∷ rs) h = let (g, gs, shape) = head_of r (steps_in rs) in rw shape (omega arith)
