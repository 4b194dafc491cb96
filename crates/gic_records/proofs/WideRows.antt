-- A pass that refuses each record that is too wide for a row reads the same of the records up to the first that is.
use Rattle.std.proofs.Common.{◌≡◌, ℕ, ◌+◌, ◌<◌, nat_le, List, [], ◌∷◌, length, take, true, false, Option, Some, Result, Ok, Err, refl, ap, arith, inl, inr}
use Rattle.std.proofs.lemmas.List.{length-take-le}
use Rattle.std.proofs.lemmas.Bool.{cases_Bool}
use Rattle.std.proofs.lemmas.Bool.Decides.{nat_tests}
use Rattle.gic_base.specs.Passes.{◌>>=◌, test}
use Rattle.gic_records.specs.RowPass.{rows_in}
use Rattle.gic_records.specs.Wide.{up_to_wide}

-- what is done with a value is the same, so the whole is
pub then_same : {A B E : Type 0} (r : Result A E) (f g : A → Result B E) → ((x : A) → f x ≡ g x) → (r >>= f) ≡ (r >>= g)
then_same (Ok x) f g h = h x
then_same (Err e) f g h = refl

-- a record that is too wide, cut to one field more than a row has, still is
pub cut_is_wide : (columns : List (List ℕ)) → 4 < length columns → 4 < length (take 5 columns)
cut_is_wide columns wide = let five = length-take-le 5 columns (omega (arith, wide)) in omega (arith, five)

-- the records after one that is not too wide
pub narrow_first : (columns : List (List ℕ)) (records : List (List (List ℕ))) → nat_le (length columns) 4 ≡ true → up_to_wide (columns ∷ records) ≡ columns ∷ up_to_wide records
narrow_first columns records h = rw h refl

-- and one that is
pub wide_first : (columns : List (List ℕ)) (records : List (List (List ℕ))) → nat_le (length columns) 4 ≡ false → up_to_wide (columns ∷ records) ≡ take 5 columns ∷ []
wide_first columns records h = rw h refl

pub is_wide : (columns : List (List ℕ)) → nat_le (length columns) 4 ≡ false → 4 < length columns
is_wide columns h = grind (arith, nat_tests, h)

module _ {A E : Type 0} (read : ℕ → Option ℕ → List (List ℕ) → Result A E) (time : A → ℕ) (most : ℕ) (late : E) (refusal : ℕ → E)
    (refuses : (row : ℕ) (before : Option ℕ) (columns : List (List ℕ)) → 4 < length columns → read row before columns ≡ Err (refusal row)) where
  -- the rows of the records up to the first that is too wide are those of all
  pub wide_rows_law : (row : ℕ) (before : Option ℕ) (records : List (List (List ℕ)))
      → rows_in read time most late row before (up_to_wide records) ≡ rows_in read time most late row before records
  unfolding rows_in
  wide_rows_law row before [] = refl
  wide_rows_law row before (columns ∷ records) = elim (cases_Bool (nat_le (length columns) 4)) [
    | inl narrow ↦
        rw (narrow_first columns records narrow)
        (then_same (test (nat_le row most) late) _ _ (λ few. then_same (read row before columns) _ _ (λ x. ap (λ xs. xs >>= (λ ys. Ok (x ∷ ys))) (wide_rows_law (row + 1) (Some (time x)) records))))
    | inr wide ↦
        let many = is_wide columns wide in
        rw (wide_first columns records wide, refuses row before columns many, refuses row before (take 5 columns) (cut_is_wide columns many)) refl
  ]
