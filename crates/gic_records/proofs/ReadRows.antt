-- Rows read one after another.
use Rattle.std.proofs.Common.{◌≡◌, ℕ, ◌+◌, ◌≤◌, ◌<◌, ◌-◌, nat_le, length, get_or, List, [], ◌∷◌, ◌++◌, true, false, Option, Some, Result, Ok, Err, refl, ap, sym, arith, append_assoc, append-nil, length-append}
use Rattle.std.proofs.Math.Seq.{get_or-append_seam}
use Rattle.std.proofs.lemmas.Bool.Decides.{nat_tests}
use Rattle.gic_base.specs.Passes.{◌>>=◌}
use Rattle.gic_records.specs.RowPass.{rows_in}

-- what was read, behind these rows
abbrev pub with_prefix : {A E : Type 0} → List A → Result (List A) E → Result (List A) E
with_prefix prefix (Ok xs) = Ok (prefix ++ xs)
with_prefix prefix (Err e) = Err e

in_time : (row most : ℕ) → row ≤ most → nat_le row most ≡ true
in_time row most h = grind (arith, nat_tests, h)

too_late : (row most : ℕ) → most < row → nat_le row most ≡ false
too_late row most h = grind (arith, nat_tests, h)

prefix_more : {A E : Type 0} (prefix : List A) (x : A) (r : Result (List A) E) → with_prefix prefix (r >>= (λ xs. Ok (x ∷ xs))) ≡ with_prefix (prefix ++ x ∷ []) r
prefix_more prefix x (Ok xs) = ap Ok (sym (append_assoc prefix (x ∷ []) xs))
prefix_more prefix x (Err e) = refl

module _ {A E : Type 0} (read : ℕ → Option ℕ → List (List ℕ) → Result A E) (time : A → ℕ) (most : ℕ) (late : E) (prefix : List A) (row : ℕ) (before : Option ℕ) (left : List (List (List ℕ))) where
  -- no record is left
  pub read_end : left ≡ [] → with_prefix prefix (rows_in read time most late row before left) ≡ Ok prefix
  unfolding rows_in
  read_end h = rw (h, append-nil prefix) refl

  -- the next record is a row
  pub read_row : (columns : List (List ℕ)) (after : List (List (List ℕ))) (x : A) → row ≤ most → left ≡ columns ∷ after → read row before columns ≡ Ok x
      → with_prefix (prefix ++ x ∷ []) (rows_in read time most late (row + 1) (Some (time x)) after) ≡ with_prefix prefix (rows_in read time most late row before left)
  unfolding rows_in
  read_row columns after x few at here = rw (at, in_time row most few, here) (sym (prefix_more prefix x (rows_in read time most late (row + 1) (Some (time x)) after)))

  -- it is none
  pub read_bad : (columns : List (List ℕ)) (after : List (List (List ℕ))) (e : E) → row ≤ most → left ≡ columns ∷ after → read row before columns ≡ Err e
      → with_prefix prefix (rows_in read time most late row before left) ≡ Err e
  unfolding rows_in
  read_bad columns after e few at here = rw (at, in_time row most few, here) refl

  -- it is one too many
  pub read_late : (columns : List (List ℕ)) (after : List (List (List ℕ))) → most < row → left ≡ columns ∷ after → with_prefix prefix (rows_in read time most late row before left) ≡ Err late
  unfolding rows_in
  read_late columns after over at = rw (at, too_late row most over) refl

-- the last time after one more row is its own
pub last_time : {A : Type 0} (time : A → ℕ) (rows : List A) (x d : A) → time (get_or (rows ++ x ∷ []) (length (rows ++ x ∷ []) - 1) d) ≤ time x
last_time time rows x d =
    let place : length (rows ++ x ∷ []) - 1 ≡ length rows = omega (arith, length-append rows (x ∷ [])) in
    rw (place, get_or-append_seam rows x [] d) (omega arith)
