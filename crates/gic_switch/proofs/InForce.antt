-- The rows in force at a time, where the times of the rows do not fall.
use Rattle.std.proofs.Common.{◌≡◌, ℕ, zero, suc, ◌≤◌, ◌<◌, nat_le, List, [], ◌∷◌, length, take, get_or, true, false, refl, ap, arith, inl, inr}
use Rattle.std.proofs.lemmas.Bool.{cases_Bool}
use Rattle.std.proofs.lemmas.Bool.Decides.{nat_tests}
use Rattle.std.specs.List.Sorted.{IsNonDecreasingBy}
use Rattle.gic_model.specs.declared.parts.Switching.{Switching}
use Rattle.gic_model.specs.Standing.{rows_in_force}
use Rattle.gic_switch.specs.Epochs.{AreInForce}

-- the times of the rows do not fall
abbrev pub AreOrdered : List Switching → Type 0
AreOrdered rows = IsNonDecreasingBy (λ (s : Switching). s.time) rows

rest_ordered : (s : Switching) (rows : List Switching) → AreOrdered (s ∷ rows) → AreOrdered rows
rest_ordered s rows h i j d up within = h (suc i) (suc j) d (omega arith) (omega arith)

is_now : (a b : ℕ) → nat_le a b ≡ true → a ≤ b
is_now a b h = grind (arith, nat_tests, h)

is_later : (a b : ℕ) → nat_le a b ≡ false → b < a
is_later a b h = grind (arith, nat_tests, h)

make_now : (a b : ℕ) → a ≤ b → nat_le a b ≡ true
make_now a b h = grind (arith, nat_tests, h)

make_later : (a b : ℕ) → b < a → nat_le a b ≡ false
make_later a b h = grind (arith, nat_tests, h)

-- no row of a later time is in force
none_later : (time : ℕ) (rows : List Switching) → ((k : ℕ) (d : Switching) → k < length rows → time < (get_or rows k d).time) → rows_in_force time rows ≡ []
none_later time [] late = refl
none_later time (s ∷ rows) late =
    rw (make_later s.time time (late 0 s (omega arith))) (none_later time rows (λ k d within. late (suc k) d (omega arith)))

-- none after one of a later time
none_after : (time : ℕ) (s : Switching) (rows : List Switching) → AreOrdered (s ∷ rows) → time < s.time → rows_in_force time rows ≡ []
none_after time s rows h late = none_later time rows (λ k d within. let up = h 0 (suc k) d (omega arith) (omega arith) in omega arith)

-- no more are in force than there are
pub within_rows : (time : ℕ) (rows : List Switching) → length (rows_in_force time rows) ≤ length rows
within_rows time [] = omega arith
within_rows time (s ∷ rows) =
    let rest = within_rows time rows in
    elim (cases_Bool (nat_le s.time time)) [
      | inl now ↦ rw now (omega arith)
      | inr later ↦ rw later (omega arith)
    ]

-- those in force are the first
first_rows : (time : ℕ) (rows : List Switching) → AreOrdered rows → rows_in_force time rows ≡ take (length (rows_in_force time rows)) rows
first_rows time [] h = refl
first_rows time (s ∷ rows) h =
    elim (cases_Bool (nat_le s.time time)) [
      | inl now ↦ rw now (ap (λ xs. s ∷ xs) (first_rows time rows (rest_ordered s rows h)))
      | inr later ↦ rw (later, none_after time s rows h (is_later s.time time later)) refl
    ]

-- this many are in force, the first ones
pub in_force_law : (time : ℕ) (rows : List Switching) (through : ℕ) → AreOrdered rows → through ≡ length (rows_in_force time rows) → AreInForce rows time through
in_force_law time rows through h count =
    rw count (record { within = within_rows time rows; first_rows = first_rows time rows h })

-- a row that is not later is among those in force
pub above_now : (time : ℕ) (rows : List Switching) (k : ℕ) (d : Switching) → AreOrdered rows → k < length rows → (get_or rows k d).time ≤ time → k < length (rows_in_force time rows)
above_now time [] k d h within now = absurd (omega arith)
above_now time (s ∷ rows) zero d h within now = rw (make_now s.time time now) (omega arith)
above_now time (s ∷ rows) (suc k) d h within now =
    let up = h 0 (suc k) d (omega arith) within in
    let rest = above_now time rows k d (rest_ordered s rows h) (omega arith) now in
    rw (make_now s.time time (omega arith)) (omega arith)

-- those in force stand before a row that is later
pub most_before : (time : ℕ) (rows : List Switching) (k : ℕ) (d : Switching) → AreOrdered rows → k < length rows → time < (get_or rows k d).time → length (rows_in_force time rows) ≤ k
most_before time [] k d h within late = absurd (omega arith)
most_before time (s ∷ rows) zero d h within late = rw (make_later s.time time late, none_after time s rows h late) (omega arith)
most_before time (s ∷ rows) (suc k) d h within late =
    let rest = most_before time rows k d (rest_ordered s rows h) (omega arith) late in
    elim (cases_Bool (nat_le s.time time)) [
      | inl now ↦ rw now (omega arith)
      | inr later ↦ rw later (omega arith)
    ]

-- at a later time no fewer are in force
pub no_fewer : (t u : ℕ) (rows : List Switching) → t ≤ u → length (rows_in_force t rows) ≤ length (rows_in_force u rows)
no_fewer t u [] up = omega arith
no_fewer t u (s ∷ rows) up =
    let rest = no_fewer t u rows up in
    elim (cases_Bool (nat_le s.time t)) [
      | inl now ↦ let first = is_now s.time t now in rw (now, make_now s.time u (omega arith)) (omega arith)
      | inr later ↦ rw later (elim (cases_Bool (nat_le s.time u)) [
        | inl now ↦ rw now (omega arith)
        | inr late ↦ rw late (omega arith)
      ])
    ]
