-- The list of the records that are left doesn't hang on the number of turns that it is given.
use Rattle.std.proofs.Common.{◌≡◌, ℕ, zero, suc, ◌+◌, ◌≤◌, ◌<◌, List, [], ◌∷◌, ◌++◌, length, Bool, true, false, cond, Option, Some, None, refl, ap, arith, inl, inr, add-one, subst}
use Rattle.std.proofs.lemmas.Bool.{cases_Bool}
use Rattle.csv.specs.Machine.{Read, next_record, step, is_end, ends_at_end, fields_after}
use Rattle.csv.specs.Reading.{default_config, records_from, records_next}
use Rattle.csv.specs.declared.parser.Config.{Config}
use Rattle.csv.specs.declared.parser.State.{State}
use Rattle.csv.specs.declared.parser.State.TheVariants as st
use Rattle.gic_records.specs.Reading.{records_left}
use Rattle.gic_records.proofs.EndsOfRecords.{step_clean}

-- how many more records there can be
abbrev pub weight : State → List ℕ → ℕ
weight s xs = length xs + cond (ends_at_end s) 1 0

pub one_or_none : (b : Bool) → cond b 1 0 ≤ 1
one_or_none true = omega arith
one_or_none false = omega arith

pub some_same : {A : Type 0} {x y : A} → Some x ≡ Some y → x ≡ y
some_same k = cc

pub none_some : {A : Type 0} {x : A} → None ≡ Some x → ⊥
none_some k = cc

-- each read leaves fewer
pub shrinks : (cfg : Config) (s : State) (fields : List (List ℕ)) (field xs : List ℕ) (p : Read) → next_record cfg s fields field xs ≡ Some p → weight p.1 p.2 < weight s xs
unfolding next_record
shrinks cfg s fields field [] p h = ended (ends_at_end s) h
  where
    ended : (b : Bool) → cond b (Some (fields ++ (field ∷ []), st.StartRecord, [])) None ≡ Some p → weight p.1 p.2 < length {A = ℕ} [] + cond b 1 0
    ended true e = subst (λ (q : Read). weight q.1 q.2 < 1) (some_same e) (omega arith)
    ended false e = absurd (none_some e)
shrinks cfg s fields field (c ∷ rest) p h = elim (cases_Bool (is_end (step cfg s c).1)) [
  | inl ends ↦ ended ends (rw ends at h)
  | inr goes ↦
      let less = shrinks cfg (step cfg s c).0 _ _ rest p (rw goes at h) in
      let few = one_or_none (ends_at_end (step cfg s c).0) in
      omega arith
]
  where
    ended : is_end (step cfg s c).1 ≡ true → Some (fields_after (step cfg s c).1 fields field, (step cfg s c).0, rest) ≡ Some p → weight p.1 p.2 < suc (length rest) + cond (ends_at_end s) 1 0
    ended ends e = subst (λ (q : Read). weight q.1 q.2 < suc (length rest) + cond (ends_at_end s) 1 0) (some_same e) (rw ((step_clean cfg s c).clean ends) (omega arith))

-- and none where there can be none
pub none_left : (cfg : Config) (s : State) (xs : List ℕ) → weight s xs ≤ 0 → next_record cfg s [] [] xs ≡ None
none_left cfg s xs few = go (next_record cfg s [] [] xs) refl
  where
    go : (o : Option Read) → next_record cfg s [] [] xs ≡ o → o ≡ None
    go None e = refl
    go (Some p) e = let less = shrinks cfg s [] [] xs p e in absurd (omega arith)

-- any number of turns that is large enough gives the same records
same_records : (cfg : Config) (n k : ℕ) (s : State) (xs : List ℕ) → weight s xs ≤ n → weight s xs ≤ k → records_from cfg n s xs ≡ records_from cfg k s xs
unfolding records_from
same_records cfg zero zero s xs a b = refl
same_records cfg zero (suc k) s xs a b = rw (none_left cfg s xs a) refl
same_records cfg (suc n) zero s xs a b = rw (none_left cfg s xs b) refl
same_records cfg (suc n) (suc k) s xs a b = go (λ t ys c d. same_records cfg n k t ys c d) (next_record cfg s [] [] xs) refl
  where
    go : ((t : State) (ys : List ℕ) → weight t ys ≤ n → weight t ys ≤ k → records_from cfg n t ys ≡ records_from cfg k t ys)
        → (o : Option Read) → next_record cfg s [] [] xs ≡ o → records_next (records_from cfg n) o ≡ records_next (records_from cfg k) o
    go same None e = refl
    go same (Some p) e =
        let less = shrinks cfg s [] [] xs p e in
        ap (λ t. p.0 ∷ t) (same p.1 p.2 (omega arith) (omega arith))

-- none is left where a read finds none
pub left_none : (s : State) (ys : List ℕ) → next_record default_config s [] [] ys ≡ None → records_left s (Some ys) ≡ []
unfolding records_from
left_none s ys h = rw (add-one, h) refl

-- and otherwise the one that it finds, and those after it
pub left_more : (s : State) (ys : List ℕ) (p : Read) → next_record default_config s [] [] ys ≡ Some p → records_left s (Some ys) ≡ p.0 ∷ records_left p.1 (Some p.2)
unfolding records_from
left_more s ys p h =
    let less = shrinks default_config s [] [] ys p h in
    let few = one_or_none (ends_at_end s) in
    rw (add-one, h) (ap (λ t. p.0 ∷ t) (same_records default_config (length ys) (length p.2 + 1) p.1 p.2 (omega arith) (few_of (one_or_none (ends_at_end p.1)))))
  where
    few_of : cond (ends_at_end p.1) 1 0 ≤ 1 → weight p.1 p.2 ≤ length p.2 + 1
    few_of k = omega arith
