-- Steps of the loops over names.
use Rattle.std.proofs.Common.{◌≡◌, ℕ, zero, suc, ◌+◌, ◌<◌, List, [], ◌∷◌, length, take, get_or, Bool, true, false, cond, ◌||◌, Option, Some, None, refl, sym, ap, ◌∙◌, arith, ◌≤◌, is_some, inl, inr, zero-add, length-take-le}
use Rattle.std.proofs.lemmas.Bool.{cases_Bool, cases_eq, false≢true}
use Rattle.std.proofs.lemmas.List.{take_more, get_or_default}
use Rattle.std.proofs.lemmas.List.Folds.{list_any_more}
use Rattle.std.specs.List.{list_any}
use Rattle.std.proofs.lemmas.Cmp.{nat_list_eq_equiv}
use Rattle.std.specs.Option.{option_or}
use Rattle.gic_case.specs.Names.{same, is_repeat, place_from, place_in}
use Rattle.gic_case.proofs.Places.{place_last}
use Rattle.gic_case_reader.specs.OneByOne.{first_from, first_repeat}

-- no place below n repeats a name
abbrev pub HasNoRepeat : List (List ℕ) → ℕ → Type 0
HasNoRepeat names n = (k : ℕ) → k < n → is_repeat names k ≡ false

-- the place is the first that repeats a name
pub record IsFirstRepeat (names : List (List ℕ)) (i : ℕ) : Type 0 where
  pub within : i < length names
  pub repeats : is_repeat names i ≡ true
  pub first : HasNoRepeat names i

or_cond : (b c : Bool) → cond b true c ≡ (c || b)
or_cond true true = refl
or_cond true false = refl
or_cond false true = refl
or_cond false false = refl

-- after one more name the set has that name and those before
pub seen_more : (before after : List ℕ → Bool) (names : List (List ℕ)) (i : ℕ) (x : List ℕ) → i < length names → x ≡ get_or names i x
    → ((q : List ℕ) → before q ≡ list_any (same q) (take i names))
    → ((q : List ℕ) → after q ≡ cond (same x q) true (before q))
    → (q : List ℕ) → after q ≡ list_any (same q) (take (i + 1) names)
seen_more before after names i x h at old new q =
    new q ∙ or_cond (same x q) (before q)
    ∙ ap (λ b. b || same x q) (old q)
    ∙ ap (λ b. list_any (same q) (take i names) || b) (nat_list_eq_equiv.symm x q ∙ ap (λ y. same q y) at)
    ∙ sym (list_any_more (same q) names i x h)

-- whether a name is a repeat, by the name as the code reads it
pub is_repeat-at : (names : List (List ℕ)) (i : ℕ) (x : List ℕ) → i < length names → x ≡ get_or names i x → is_repeat names i ≡ list_any (same x) (take i names)
is_repeat-at names i x h at = ap (λ y. list_any (same y) (take i names)) (get_or_default names i [] x h ∙ sym at)

place_congr : (n : ℕ) (xs : List (List ℕ)) (x q : List ℕ) → same q x ≡ true → place_from n xs q ≡ place_from n xs x
place_congr n [] x q h = refl
place_congr n (y ∷ ys) x q h = rw (nat_list_eq_equiv.congr q x y h, place_congr (n + 1) ys x q h)

place_more : (names : List (List ℕ)) (i : ℕ) (x q : List ℕ) → i < length names → x ≡ get_or names i x
    → place_in (take (i + 1) names) q ≡ option_or (place_in (take i names) q) (cond (same q x) (Some i) None)
place_more names i x q h at =
    let count : length (take i names) ≡ i = length-take-le i names (omega arith) in
    rw (take_more names i x h, ← at, place_last 0 (take i names) x q, count, zero-add)

pub or_none : {A : Type 0} (o : Option A) → o ≡ option_or o None
or_none None = refl
or_none (Some x) = refl

stays : (o p : Option ℕ) → is_some o ≡ true → o ≡ option_or o p
stays None p h = absurd (false≢true h)
stays (Some n) p h = refl

-- a name that isn't in the map yet goes in
pub place_new : (before after : List ℕ → Option ℕ) (names : List (List ℕ)) (i : ℕ) (x : List ℕ) → i < length names → x ≡ get_or names i x
    → ((q : List ℕ) → before q ≡ place_in (take i names) q)
    → ((q : List ℕ) → after q ≡ cond (same x q) (Some i) (before q))
    → before x ≡ None
    → (q : List ℕ) → after q ≡ place_in (take (i + 1) names) q
place_new before after names i x h at old new absent q =
    elim (cases_Bool (same q x)) [
      | inl same_name ↦
          let none : place_in (take i names) q ≡ None = place_congr 0 (take i names) x q same_name ∙ sym (old x) ∙ absent in
          let hit : same x q ≡ true = nat_list_eq_equiv.symm x q ∙ same_name in
          rw (new q, hit, place_more names i x q h at, none, same_name)
      | inr other ↦
          let miss : same x q ≡ false = nat_list_eq_equiv.symm x q ∙ other in
          rw (new q, miss, old q, place_more names i x q h at, other) (or_none (place_in (take i names) q))
    ]

-- a name that is in the map stays where it is
pub place_old : (before : List ℕ → Option ℕ) (names : List (List ℕ)) (i : ℕ) (x : List ℕ) → i < length names → x ≡ get_or names i x
    → ((q : List ℕ) → before q ≡ place_in (take i names) q)
    → is_some (before x) ≡ true
    → (q : List ℕ) → before q ≡ place_in (take (i + 1) names) q
place_old before names i x h at old there q =
    elim (cases_Bool (same q x)) [
      | inl same_name ↦
          let found : is_some (place_in (take i names) q) ≡ true = ap is_some (place_congr 0 (take i names) x q same_name ∙ sym (old x)) ∙ there in
          rw (old q, place_more names i x q h at) (stays (place_in (take i names) q) _ found)
      | inr other ↦ rw (old q, place_more names i x q h at, other) (or_none (place_in (take i names) q))
    ]

none_from : (test : ℕ → Bool) (n i : ℕ) → ((k : ℕ) → k < i + n → test k ≡ false) → first_from test n i ≡ None
none_from test zero i none = refl
none_from test (suc n) i none = rw (none i (omega arith)) (none_from test n (i + 1) (λ k h. none k (omega arith)))

some_from : (test : ℕ → Bool) (n i j : ℕ) → i ≤ j → j < i + n → test j ≡ true → ((k : ℕ) → k < j → test k ≡ false) → first_from test n i ≡ Some j
some_from test zero i j low high hit none = absurd (omega arith)
some_from test (suc n) i j low high hit none =
    elim (cases_eq i j) [
      | inl here ↦ rw (here, hit)
      | inr apart ↦
          let below : i < j = omega arith in
          rw (none i below) (some_from test n (i + 1) j (omega arith) (omega arith) hit none)
    ]

-- no place repeats a name
pub first_repeat_none : (names : List (List ℕ)) → HasNoRepeat names (length names) → None ≡ first_repeat names
unfolding first_repeat
first_repeat_none names h = sym (none_from (is_repeat names) (length names) 0 (λ k below. h k (omega arith)))

-- a place is the first to repeat a name
pub first_repeat_some : (names : List (List ℕ)) (i : ℕ) → IsFirstRepeat names i → Some i ≡ first_repeat names
unfolding first_repeat
first_repeat_some names i h = sym (some_from (is_repeat names) (length names) 0 i (omega arith) (omega (arith, h.within)) h.repeats h.first)
