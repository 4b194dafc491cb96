-- The prefix of a text has its records up to the first that is too wide.
use Rattle.std.proofs.Common.{◌≡◌, ◌==◌, ℕ, zero, suc, ◌+◌, ◌-◌, ◌≤◌, ◌<◌, nat_le, List, [], ◌∷◌, ◌++◌, length, take, drop, get_or, Bool, true, false, cond, Option, Some, None, refl, ap, sym, subst, ◌∙◌, arith, append_assoc, append-nil, inl, inr, add-one, length-append}
use Rattle.std.proofs.lemmas.List.{drop_all, length-drop}
use Rattle.std.proofs.Math.Seq.{drop-cons, take-length, take-append_seam}
use Rattle.std.proofs.lemmas.Bool.{cases_Bool}
use Rattle.std.proofs.lemmas.Bool.Decides.{nat_tests}
use Rattle.csv.specs.Machine.{Read, next_record, step, is_end, ends_at_end, fields_after, field_after}
use Rattle.csv.specs.Reading.{default_config, is_bom, strip_bom}
use Rattle.csv.specs.declared.parser.State.{State}
use Rattle.csv.specs.declared.parser.State.TheVariants as st
use Rattle.csv.specs.declared.parser.Action.{Action}
use Rattle.csv.specs.declared.parser.Action.TheVariants as act
use Rattle.gic_records.specs.Prefix.{ended_after, ends_wide, prefix_len, mark_len}
use Rattle.gic_records.specs.Reading.{records_left}
use Rattle.gic_records.specs.Records.{records_of}
use Rattle.gic_records.specs.Wide.{up_to_wide}
use Rattle.gic_records.proofs.Turns.{weight, shrinks, none_left, left_none, left_more, some_same, none_some}
use Rattle.gic_records.proofs.Steps.{is_other, IsPlainStep, step_plain, Stands, stands_next, stands_first, fields_at_end, fields_more}

-- one byte of the prefix
prefix_more : (s : State) (n c : ℕ) (rest : List ℕ) (p : State × Action) → step default_config s c ≡ p → ends_wide p.1 n ≡ false → prefix_len s n (c ∷ rest) ≡ prefix_len p.0 (ended_after p.1 n) rest + 1
unfolding prefix_len
prefix_more s n c rest p e goes = rw (e, goes) refl

-- the byte at which it ends
prefix_stops : (s : State) (n c : ℕ) (rest : List ℕ) (p : State × Action) → step default_config s c ≡ p → ends_wide p.1 n ≡ true → prefix_len s n (c ∷ rest) ≡ 0
unfolding prefix_len
prefix_stops s n c rest p e stops = rw (e, stops) refl

-- no byte is left
prefix_end : (s : State) (n : ℕ) → prefix_len s n [] ≡ 0
unfolding prefix_len
prefix_end s n = refl

-- at a place of a text: one byte more, where the record goes on
pub prefix_at : (s : State) (n i : ℕ) (xs : List ℕ) (p : State × Action) → i < length xs → step default_config s (get_or xs i 0) ≡ p → ends_wide p.1 n ≡ false
    → prefix_len s n (drop i xs) ≡ prefix_len p.0 (ended_after p.1 n) (drop (i + 1) xs) + 1
prefix_at s n i xs p within e goes = rw (drop-cons xs i 0 within, add-one i) (prefix_more s n (get_or xs i 0) (drop (suc i) xs) p e goes)

pub prefix_stops_at : (s : State) (n i : ℕ) (xs : List ℕ) (p : State × Action) → i < length xs → step default_config s (get_or xs i 0) ≡ p → ends_wide p.1 n ≡ true → prefix_len s n (drop i xs) ≡ 0
prefix_stops_at s n i xs p within e stops = rw (drop-cons xs i 0 within) (prefix_stops s n (get_or xs i 0) (drop (suc i) xs) p e stops)

-- no byte is left of it
pub prefix_none : (s : State) (n i : ℕ) (xs : List ℕ) → length xs ≤ i → prefix_len s n (drop i xs) ≡ 0
prefix_none s n i xs past = rw (drop_all i xs past) (prefix_end s n)

-- a record's fields are counted no further than the prefix goes
pub ended_within : (a : Action) (n : ℕ) → n ≤ 4 → ends_wide a n ≡ false → ended_after a n ≤ 4
ended_within act.EndField n few goes = grind (arith, nat_tests, few, goes)
ended_within act.EndRecord n few goes = omega arith
ended_within act.Skip n few goes = few
ended_within act.Copy n few goes = few

-- one byte of a record
read_more : (s : State) (fields : List (List ℕ)) (field : List ℕ) (c : ℕ) (rest : List ℕ) (p : State × Action) → step default_config s c ≡ p → is_end p.1 ≡ false
    → next_record default_config s fields field (c ∷ rest) ≡ next_record default_config p.0 (fields_after p.1 fields field) (field_after p.1 c field) rest
unfolding next_record
read_more s fields field c rest p e goes = rw (e, goes) refl

-- the byte that ends it
read_ends : (s : State) (fields : List (List ℕ)) (field : List ℕ) (c : ℕ) (rest : List ℕ) (p : State × Action) → step default_config s c ≡ p → is_end p.1 ≡ true
    → next_record default_config s fields field (c ∷ rest) ≡ Some (fields_after p.1 fields field, p.0, rest)
unfolding next_record
read_ends s fields field c rest p e ends = rw (e, ends) refl

-- the end of a text, in a record that is begun and out of one
read_last : (s : State) (fields : List (List ℕ)) (field : List ℕ) → ends_at_end s ≡ true → next_record default_config s fields field [] ≡ Some (fields ++ (field ∷ []), st.StartRecord, [])
unfolding next_record
read_last s fields field h = rw h refl

read_none : (s : State) (fields : List (List ℕ)) (field : List ℕ) → ends_at_end s ≡ false → next_record default_config s fields field [] ≡ None
unfolding next_record
read_none s fields field h = rw h refl

-- a record with fields is begun
in_record : (s : State) (fields : List (List ℕ)) → Stands s fields → 0 < length fields → ends_at_end s ≡ true
in_record s fields h some = elim (cases_Bool (ends_at_end s)) [
  | inl has ↦ has
  | inr lacks ↦ let none : length fields ≡ 0 = ap length (h.none lacks) in absurd (omega (arith, none, some))
]

one_more : (fields : List (List ℕ)) (field : List ℕ) → length (fields ++ (field ∷ [])) ≡ length fields + 1
one_more fields field = length-append fields (field ∷ [])

-- a read found a record that has these fields first
pub record Extends (first : List (List ℕ)) (o : Option Read) : Type 0 where
  pub read : Read
  pub found : o ≡ Some read
  pub more : List (List ℕ)
  pub fields : read.0 ≡ first ++ more

-- the same with fewer fields first
fewer : (first more : List (List ℕ)) (o : Option Read) → Extends (first ++ more) o → Extends first o
fewer first more o h = record {
  read = h.read;
  found = h.found;
  more = more ++ h.more;
  fields = h.fields ∙ append_assoc first more h.more;
}

-- a record with fields is read to its end
extends : (xs : List ℕ) (s : State) (fields : List (List ℕ)) (field : List ℕ) → Stands s fields → 0 < length fields → Extends fields (next_record default_config s fields field xs)
extends [] s fields field h some = record {
  read = (fields ++ (field ∷ []), st.StartRecord, []);
  found = read_last s fields field (in_record s fields h some);
  more = field ∷ [];
  fields = refl;
}
extends (c ∷ rest) s fields field h some = elim (cases_Bool (is_end (step default_config s c).1)) [
  | inl ends ↦ record {
    read = (fields_after (step default_config s c).1 fields field, (step default_config s c).0, rest);
    found = read_ends s fields field c rest (step default_config s c) refl ends;
    more = field ∷ [];
    fields = fields_at_end (step default_config s c).1 fields field ends;
  }
  | inr goes ↦
      let p = step default_config s c in
      let (more, split) = fields_more p.1 fields field in
      let long : 0 < length (fields ++ more) = let many = length-append fields more in omega (arith, many, some) in
      let stands = stands_next s fields field p h (step_plain s c h.plain) goes in
      rw (read_more s fields field c rest p refl goes)
      (fewer fields more _ (rw (← split) (extends rest p.0 (fields_after p.1 fields field) (field_after p.1 c field) stands (rw split long))))
]

-- what is read of the prefix, where this is read of the text
abbrev read_of_prefix : Option Read → Option Read
read_of_prefix None = None
read_of_prefix (Some p) =
    cond (nat_le (length p.0) 4) (Some (p.0, p.1, take (prefix_len p.1 0 p.2) p.2)) (Some (take 5 p.0, st.StartRecord, []))

-- a record that isn't wide
narrow_read : (p : Read) → length p.0 ≤ 4 → read_of_prefix (Some p) ≡ Some (p.0, p.1, take (prefix_len p.1 0 p.2) p.2)
narrow_read p few = let test : nat_le (length p.0) 4 ≡ true = grind (arith, nat_tests, few) in rw test refl

-- a record that is
wide_read : (p : Read) → 4 < length p.0 → read_of_prefix (Some p) ≡ Some (take 5 p.0, st.StartRecord, [])
wide_read p many = let test : nat_le (length p.0) 4 ≡ false = grind (arith, nat_tests, many) in rw test refl

-- five fields are all of five
five : (fields : List (List ℕ)) (field : List ℕ) → length fields ≡ 4 → take 5 (fields ++ (field ∷ [])) ≡ fields ++ (field ∷ [])
five fields field four =
    let all : length (fields ++ (field ∷ [])) ≡ 5 = omega (arith, one_more fields field, four) in
    subst (λ n. take n (fields ++ (field ∷ [])) ≡ fields ++ (field ∷ [])) all (take-length (fields ++ (field ∷ [])))

-- the text ends in a record
last_field : (fields : List (List ℕ)) (field : List ℕ) → length fields ≤ 4 → Some (fields ++ (field ∷ []), st.StartRecord, []) ≡ read_of_prefix (Some (fields ++ (field ∷ []), st.StartRecord, []))
last_field fields field few = elim (cases_Bool (length fields == 4)) [
  | inl is ↦
      let four : length fields ≡ 4 = grind (arith, nat_tests, is) in
      let many : 4 < length (fields ++ (field ∷ [])) = omega (arith, one_more fields field, four) in
      rw (wide_read (fields ++ (field ∷ []), st.StartRecord, []) many, five fields field four) refl
  | inr isn't ↦
      let less : length (fields ++ (field ∷ [])) ≤ 4 = grind (arith, nat_tests, isn't, few, one_more fields field) in
      rw (narrow_read (fields ++ (field ∷ []), st.StartRecord, []) less, prefix_end st.StartRecord 0) refl
]

-- the prefix ends in a record, at the byte that ends its fifth field
fifth_field : (s : State) (fields : List (List ℕ)) (field : List ℕ) (o : Option Read) → Stands s fields → length fields ≡ 4
    → Extends (fields ++ (field ∷ [])) o → next_record default_config s fields field [] ≡ read_of_prefix o
fifth_field s fields field o h four e =
    let some : 0 < length fields = omega (arith, four) in
    let many : 4 < length e.read.0 = let all = ap length e.fields in let parts = length-append (fields ++ (field ∷ [])) e.more in omega (arith, all, parts, one_more fields field, four) in
    let first : take 5 e.read.0 ≡ fields ++ (field ∷ []) = let all : length (fields ++ (field ∷ [])) ≡ 5 = omega (arith, one_more fields field, four) in rw (e.fields, ← all) (take-append_seam (fields ++ (field ∷ [])) e.more) in
    read_last s fields field (in_record s fields h some) ∙ sym (rw (e.found, wide_read e.read many, first) refl)

-- what is read of the prefix
prefix_read : (xs : List ℕ) (s : State) (fields : List (List ℕ)) (field : List ℕ) → Stands s fields → length fields ≤ 4
    → next_record default_config s fields field (take (prefix_len s (length fields) xs) xs) ≡ read_of_prefix (next_record default_config s fields field xs)
prefix_read [] s fields field h few = rw (prefix_end s (length fields)) (elim (cases_Bool (ends_at_end s)) [
  | inl has ↦ rw (read_last s fields field has) (last_field fields field few)
  | inr lacks ↦ rw (read_none s fields field lacks) refl
])
prefix_read (c ∷ rest) s fields field h few = by (λ q fs f k l. prefix_read rest q fs f k l) (step default_config s c) refl (step_plain s c h.plain)
  where
    goal : Type 0
    goal = next_record default_config s fields field (take (prefix_len s (length fields) (c ∷ rest)) (c ∷ rest)) ≡ read_of_prefix (next_record default_config s fields field (c ∷ rest))

    one : (k : ℕ) → take (k + 1) (c ∷ rest) ≡ c ∷ take k rest
    one k = rw (add-one k) refl

    Again : Type 0
    Again = (q : State) (fs : List (List ℕ)) (f : List ℕ) → Stands q fs → length fs ≤ 4 → next_record default_config q fs f (take (prefix_len q (length fs) rest) rest) ≡ read_of_prefix (next_record default_config q fs f rest)

    by : Again → (p : State × Action) → step default_config s c ≡ p → IsPlainStep s p → goal
    by again (q, act.Skip) e k =
        let n = length fields in
        let f = prefix_len q n rest in
        rw (prefix_more s n c rest (q, act.Skip) e refl, one f, read_more s fields field c (take f rest) (q, act.Skip) e refl, read_more s fields field c rest (q, act.Skip) e refl)
        (again q fields field (stands_next s fields field (q, act.Skip) h k refl) few)
    by again (q, act.Copy) e k =
        let n = length fields in
        let f = prefix_len q n rest in
        rw (prefix_more s n c rest (q, act.Copy) e refl, one f, read_more s fields field c (take f rest) (q, act.Copy) e refl, read_more s fields field c rest (q, act.Copy) e refl)
        (again q fields (field ++ (c ∷ [])) (stands_next s fields field (q, act.Copy) h k refl) few)
    by again (q, act.EndField) e k = elim (cases_Bool (length fields == 4)) [
      | inl is ↦
          let four : length fields ≡ 4 = grind (arith, nat_tests, is) in
          let next = stands_next s fields field (q, act.EndField) h k refl in
          let some : 0 < length (fields ++ (field ∷ [])) = omega (arith, one_more fields field) in
          rw (prefix_stops s (length fields) c rest (q, act.EndField) e is, read_more s fields field c rest (q, act.EndField) e refl)
          (fifth_field s fields field (next_record default_config q (fields ++ (field ∷ [])) [] rest) h four (extends rest q (fields ++ (field ∷ [])) [] next some))
      | inr isn't ↦
          let n = length fields in
          let f = prefix_len q (n + 1) rest in
          let less : length (fields ++ (field ∷ [])) ≤ 4 = grind (arith, nat_tests, isn't, few, one_more fields field) in
          rw (prefix_more s n c rest (q, act.EndField) e isn't, one f, read_more s fields field c (take f rest) (q, act.EndField) e refl, read_more s fields field c rest (q, act.EndField) e refl, ← one_more fields field)
          (again q (fields ++ (field ∷ [])) [] (stands_next s fields field (q, act.EndField) h k refl) less)
    ]
    by again (q, act.EndRecord) e k = elim (cases_Bool (length fields == 4)) [
      | inl is ↦
          let four : length fields ≡ 4 = grind (arith, nat_tests, is) in
          rw (prefix_stops s (length fields) c rest (q, act.EndRecord) e is, read_ends s fields field c rest (q, act.EndRecord) e refl)
          (fifth_field s fields field (Some (fields ++ (field ∷ []), q, rest)) h four (record {
            read = (fields ++ (field ∷ []), q, rest);
            found = refl;
            more = [];
            fields = sym (append-nil (fields ++ (field ∷ [])));
          }))
      | inr isn't ↦
          let n = length fields in
          let f = prefix_len q 0 rest in
          let less : length (fields ++ (field ∷ [])) ≤ 4 = grind (arith, nat_tests, isn't, few, one_more fields field) in
          rw (prefix_more s n c rest (q, act.EndRecord) e isn't, one f, read_ends s fields field c (take f rest) (q, act.EndRecord) e refl, read_ends s fields field c rest (q, act.EndRecord) e refl)
          (sym (narrow_read (fields ++ (field ∷ []), q, rest) less))
    ]

-- a read leaves a place outside comments and escapes
read_plain : (xs : List ℕ) (s : State) (fields : List (List ℕ)) (field : List ℕ) (p : Read) → Stands s fields → next_record default_config s fields field xs ≡ Some p → is_other p.1 ≡ false
read_plain [] s fields field p h e = elim (cases_Bool (ends_at_end s)) [
  | inl has ↦ let k = some_same (sym (read_last s fields field has) ∙ e) in rw (← k) refl
  | inr lacks ↦ absurd (none_some (sym (read_none s fields field lacks) ∙ e))
]
read_plain (c ∷ rest) s fields field p h e = elim (cases_Bool (is_end (step default_config s c).1)) [
  | inl ends ↦ let k = some_same (sym (read_ends s fields field c rest (step default_config s c) refl ends) ∙ e) in rw (← k) (step_plain s c h.plain).plain
  | inr goes ↦
      let q = step default_config s c in
      read_plain rest q.0 (fields_after q.1 fields field) (field_after q.1 c field) p (stands_next s fields field q h (step_plain s c h.plain) goes) (sym (read_more s fields field c rest q refl goes) ∙ e)
]

-- no record begins where the text is at its end
none_at_end : records_left st.StartRecord (Some []) ≡ []
none_at_end = left_none st.StartRecord [] (read_none st.StartRecord [] [] refl)

-- the records of the prefix from a place between two, where there are at most this many
records_of_prefix : (m : ℕ) (s : State) (xs : List ℕ) → is_other s ≡ false → weight s xs ≤ m → records_left s (Some (take (prefix_len s 0 xs) xs)) ≡ up_to_wide (records_left s (Some xs))
records_of_prefix zero s xs plain few =
    let none = none_left default_config s xs few in
    let prefix = prefix_read xs s [] [] (stands_first s plain) (omega arith) in
    rw (left_none s xs none, left_none s (take (prefix_len s 0 xs) xs) (prefix ∙ ap read_of_prefix none)) refl
records_of_prefix (suc m) s xs plain few = by (λ q ys k l. records_of_prefix m q ys k l) (next_record default_config s [] [] xs) refl
  where
    Again : Type 0
    Again = (q : State) (ys : List ℕ) → is_other q ≡ false → weight q ys ≤ m → records_left q (Some (take (prefix_len q 0 ys) ys)) ≡ up_to_wide (records_left q (Some ys))

    by : Again → (o : Option Read) → next_record default_config s [] [] xs ≡ o → records_left s (Some (take (prefix_len s 0 xs) xs)) ≡ up_to_wide (records_left s (Some xs))
    by again None e =
        let prefix = prefix_read xs s [] [] (stands_first s plain) (omega arith) in
        rw (left_none s xs e, left_none s (take (prefix_len s 0 xs) xs) (prefix ∙ ap read_of_prefix e)) refl
    by again (Some p) e =
        let prefix = prefix_read xs s [] [] (stands_first s plain) (omega arith) ∙ ap read_of_prefix e in
        let less = shrinks default_config s [] [] xs p e in
        elim (cases_Bool (nat_le (length p.0) 4)) [
          | inl is ↦
              let narrow : length p.0 ≤ 4 = grind (arith, nat_tests, is) in
              let read : Read = (p.0, p.1, take (prefix_len p.1 0 p.2) p.2) in
              rw (left_more s xs p e, left_more s (take (prefix_len s 0 xs) xs) read (prefix ∙ narrow_read p narrow), is)
              (ap (λ t. p.0 ∷ t) (again p.1 p.2 (read_plain xs s [] [] p (stands_first s plain) e) (omega arith)))
          | inr isn't ↦
              let wide : 4 < length p.0 = grind (arith, nat_tests, isn't) in
              rw (left_more s xs p e, left_more s (take (prefix_len s 0 xs) xs) (take 5 p.0, st.StartRecord, []) (prefix ∙ wide_read p wide), isn't)
              (ap (λ t. take 5 p.0 ∷ t) none_at_end)
        ]

-- a text behind its byte order mark
rest_of_text : (text : List ℕ) → drop (mark_len text) text ≡ strip_bom text
unfolding strip_bom
rest_of_text [] = refl
rest_of_text (a ∷ []) = refl
rest_of_text (a ∷ b ∷ []) = refl
rest_of_text (a ∷ b ∷ c ∷ rest) = by (is_bom a b c)
  where
    by : (mark : Bool) → drop (cond mark 3 0) (a ∷ b ∷ c ∷ rest) ≡ cond mark rest (a ∷ b ∷ c ∷ rest)
    by true = refl
    by false = refl

nothing_more : (k : ℕ) → 0 + k ≡ k
nothing_more k = omega arith

-- a part of a text that has no mark
no_mark : (a b c : ℕ) (rest : List ℕ) (k : ℕ) → is_bom a b c ≡ false → strip_bom (take k (a ∷ b ∷ c ∷ rest)) ≡ take k (a ∷ b ∷ c ∷ rest)
unfolding strip_bom
no_mark a b c rest zero h = refl
no_mark a b c rest (suc zero) h = refl
no_mark a b c rest (suc (suc zero)) h = refl
no_mark a b c rest (suc (suc (suc k))) h = rw h refl

-- and of one that has it
with_mark : (a b c : ℕ) (rest : List ℕ) (k : ℕ) → is_bom a b c ≡ true → strip_bom (take (3 + k) (a ∷ b ∷ c ∷ rest)) ≡ take k rest
unfolding strip_bom
with_mark a b c rest k h = let three : 3 + k ≡ suc (suc (suc k)) = omega arith in rw (three, h) refl

-- a part of a text has its mark
mark_stays : (text : List ℕ) (k : ℕ) → strip_bom (take (mark_len text + k) text) ≡ take k (strip_bom text)
unfolding strip_bom
mark_stays [] k = rw (nothing_more k) (few k)
  where
    few : (n : ℕ) → strip_bom (take n []) ≡ take n []
    few zero = refl
    few (suc n) = refl
mark_stays (a ∷ []) k = rw (nothing_more k) (few k)
  where
    few : (n : ℕ) → strip_bom (take n (a ∷ [])) ≡ take n (a ∷ [])
    few zero = refl
    few (suc zero) = refl
    few (suc (suc n)) = refl
mark_stays (a ∷ b ∷ []) k = rw (nothing_more k) (few k)
  where
    few : (n : ℕ) → strip_bom (take n (a ∷ b ∷ [])) ≡ take n (a ∷ b ∷ [])
    few zero = refl
    few (suc zero) = refl
    few (suc (suc zero)) = refl
    few (suc (suc (suc n))) = refl
mark_stays (a ∷ b ∷ c ∷ rest) k = elim (cases_Bool (is_bom a b c)) [
  | inl is ↦ rw is (with_mark a b c rest k is)
  | inr isn't ↦ rw (isn't, nothing_more k) (no_mark a b c rest k isn't)
]

-- all that follows a place
pub to_the_end : (m : ℕ) (xs : List ℕ) → take (length xs - m) (drop m xs) ≡ drop m xs
to_the_end m xs = subst (λ n. take n (drop m xs) ≡ drop m xs) (length-drop m xs) (take-length (drop m xs))

-- the records of the prefix of a text
pub prefix_law : (text : List ℕ) → records_of (take (mark_len text + prefix_len st.StartRecord 0 (drop (mark_len text) text)) text) ≡ up_to_wide (records_of text)
prefix_law text =
    rw (mark_stays text (prefix_len st.StartRecord 0 (drop (mark_len text) text)), rest_of_text text)
    (records_of_prefix (weight st.StartRecord (strip_bom text)) st.StartRecord (strip_bom text) refl (omega arith))
