-- The runs of equal counts of switchings in force are the epochs.
use Rattle.std.proofs.Common.{◌≡◌, ◌≢◌, ℕ, zero, suc, ◌+◌, ◌-◌, ◌≤◌, ◌<◌, ◌==◌, List, [], ◌∷◌, ◌++◌, length, map, drop, get_or, true, false, cond, refl, sym, ap, ◌∙◌, arith, subst, inl, inr}
use Rattle.std.proofs.Math.Seq.{drop-cons}
use Rattle.std.proofs.lemmas.Bool.{cases_Bool, cases_lt}
use Rattle.std.proofs.lemmas.Bool.Decides.{nat_tests}
use Rattle.std.proofs.lemmas.List.{get_or-map, length-map, drop_all}
use Rattle.std.specs.List.{AllByRecursion}
use Rattle.std.specs.List.Sorted.{IsNonDecreasingBy}
use Rattle.gic_storm.specs.declared.row.StormRow.{StormRow}
use Rattle.gic_storm.specs.Steps.{steps_in, first_time, time_of_step}
use Rattle.gic_storm.proofs.Rising.{times_rise_law}
use Rattle.gic_model.specs.declared.parts.Switching.{Switching}
use Rattle.gic_model.specs.Standing.{rows_in_force}
use Rattle.gic_switch.specs.declared.epoch.Epoch.{Epoch}
use Rattle.gic_switch.specs.Epochs.{AreInForce, AreEpochs, Cover, DifferFrom, Longest}
use Rattle.gic_switch.proofs.InForce.{AreOrdered, in_force_law, no_fewer}

-- the runs of equal counts, the first of them from a step to a step at least
abbrev pub runs_after : (first last through : ℕ) → List ℕ → List Epoch
runs_after first last through [] = record { first = first; last = last; through = through } ∷ []
runs_after first last through (c ∷ cs) =
    cond (c == through) (runs_after first (last + 1) through cs) (record { first = first; last = last; through = through } ∷ runs_after (last + 1) (last + 1) c cs)

-- all runs of equal counts
abbrev pub all_runs : List ℕ → List Epoch
all_runs [] = []
all_runs (c ∷ cs) = runs_after 1 1 c cs

-- how many switchings are in force at each step
abbrev pub counts_of : List StormRow → List Switching → List ℕ
counts_of storm rows = map (λ step. length (rows_in_force (first_time step) rows)) (steps_in storm)

same_count : (c t : ℕ) → (c == t) ≡ true → c ≡ t
same_count c t h = grind (arith, nat_tests, h)

other_count : (c t : ℕ) → (c == t) ≡ false → t ≢ c
other_count c t h = grind (arith, nat_tests, h)

cover_law : (first last through : ℕ) (cs : List ℕ) (whole : ℕ) → whole ≡ last + length cs → first ≤ last → Cover first whole (runs_after first last through cs)
cover_law first last through [] whole w h = (refl, h, omega arith)
cover_law first last through (c ∷ cs) whole w h =
    elim (cases_Bool (c == through)) [
      | inl same ↦ rw same (cover_law first (last + 1) through cs whole (omega arith) (omega arith))
      | inr other ↦ rw other (refl, h, cover_law (last + 1) (last + 1) c cs whole (omega arith) (omega arith))
    ]

differ_law : (x first last through : ℕ) (cs : List ℕ) → x ≢ through → DifferFrom x (runs_after first last through cs)
differ_law x first last through [] h = (h, tt)
differ_law x first last through (c ∷ cs) h =
    elim (cases_Bool (c == through)) [
      | inl same ↦ rw same (differ_law x first (last + 1) through cs h)
      | inr other ↦ rw other (h, differ_law through (last + 1) (last + 1) c cs (other_count c through other))
    ]

longest_law : (first last through : ℕ) (cs : List ℕ) → Longest (runs_after first last through cs)
longest_law first last through [] = tt
longest_law first last through (c ∷ cs) =
    elim (cases_Bool (c == through)) [
      | inl same ↦ rw same (longest_law first (last + 1) through cs)
      | inr other ↦ rw other (differ_law through (last + 1) (last + 1) c cs (other_count c through other))
    ]

-- P says of a step that a given number of switchings are in force there
module _ (P : ℕ → ℕ → Type 0) where
  one_more : (first last through c : ℕ) → c ≡ through → ((k : ℕ) → first ≤ k → k ≤ last → P k through) → P (last + 1) c → (k : ℕ) → first ≤ k → k ≤ last + 1 → P k through
  one_more first last through c same before here k low high =
      elim (cases_lt last k) [
        | inr below ↦ before k low below
        | inl above ↦ let at : last + 1 ≡ k = omega arith in subst (λ n. P k n) same (subst (λ n. P n c) at here)
      ]

  only_one : (i c : ℕ) → P i c → (k : ℕ) → i ≤ k → k ≤ i → P k c
  only_one i c here k low high = let at : i ≡ k = omega arith in subst (λ n. P n c) at here

  shifted : (last c : ℕ) (cs : List ℕ) → ((j : ℕ) → j < length (c ∷ cs) → P (last + 1 + j) (get_or (c ∷ cs) j 0)) → (j : ℕ) → j < length cs → P (last + 1 + 1 + j) (get_or cs j 0)
  shifted last c cs h j within = let at : last + 1 + suc j ≡ last + 1 + 1 + j = omega arith in subst (λ n. P n (get_or cs j 0)) at (h (suc j) (omega arith))

  first_of : (last c : ℕ) (cs : List ℕ) → ((j : ℕ) → j < length (c ∷ cs) → P (last + 1 + j) (get_or (c ∷ cs) j 0)) → P (last + 1) c
  first_of last c cs h = let at : last + 1 + 0 ≡ last + 1 = omega arith in subst (λ n. P n c) at (h 0 (omega arith))

  same_law : (first last through : ℕ) (cs : List ℕ) → ((k : ℕ) → first ≤ k → k ≤ last → P k through) → ((j : ℕ) → j < length cs → P (last + 1 + j) (get_or cs j 0))
      → AllByRecursion {X = Epoch} (λ e. (k : ℕ) → e.first ≤ k → k ≤ e.last → P k e.through) (runs_after first last through cs)
  same_law first last through [] before after = (before, tt)
  same_law first last through (c ∷ cs) before after =
      elim (cases_Bool (c == through)) [
        | inl same ↦ rw same (same_law first (last + 1) through cs (one_more first last through c (same_count c through same) before (first_of last c cs after)) (shifted last c cs after))
        | inr other ↦ rw other (before, same_law (last + 1) (last + 1) c cs (only_one (last + 1) c (first_of last c cs after)) (shifted last c cs after))
      ]

-- the runs of the counts of all steps
runs_law : (storm : List StormRow) (rows : List Switching) (c : ℕ) (cs : List ℕ) → length (c ∷ cs) ≡ length (steps_in storm)
    → ((k : ℕ) → k < length (c ∷ cs) → AreInForce rows (time_of_step storm (k + 1)) (get_or (c ∷ cs) k 0))
    → AreEpochs storm rows (runs_after 1 1 c cs)
runs_law storm rows c cs many each = record {
  cover = cover_law 1 1 c cs (length (steps_in storm)) (omega arith) (omega arith);
  in_force = same_law (λ k n. AreInForce rows (time_of_step storm k) n) 1 1 c cs (only_one (λ k n. AreInForce rows (time_of_step storm k) n) 1 c (each 0 (omega arith)))
      (λ j within. let at : suc j + 1 ≡ 1 + 1 + j = omega arith in subst (λ n. AreInForce rows (time_of_step storm n) (get_or cs j 0)) at (each (suc j) (omega arith)));
  longest = longest_law 1 1 c cs;
}

all_law : (storm : List StormRow) (rows : List Switching) (cs : List ℕ) → length cs ≡ length (steps_in storm)
    → ((k : ℕ) → k < length cs → AreInForce rows (time_of_step storm (k + 1)) (get_or cs k 0))
    → AreEpochs storm rows (all_runs cs)
all_law storm rows [] many each = record { cover = omega arith; in_force = tt; longest = tt }
all_law storm rows (c ∷ cs) many each = runs_law storm rows c cs many each

-- there is a count for each step
counts-length : (storm : List StormRow) (rows : List Switching) → length (counts_of storm rows) ≡ length (steps_in storm)
counts-length storm rows = length-map (steps_in storm) (λ step. length (rows_in_force (first_time step) rows))

-- the count of a step
count_at : (storm : List StormRow) (rows : List Switching) (k : ℕ) → k < length (steps_in storm) → get_or (counts_of storm rows) k 0 ≡ length (rows_in_force (time_of_step storm (k + 1)) rows)
count_at storm rows k within =
    let back : k + 1 - 1 ≡ k = omega arith in
    rw back (get_or-map (λ step. length (rows_in_force (first_time step) rows)) (steps_in storm) k [] 0 within)

-- the runs of the counts of all steps are the epochs
epochs_law : (storm : List StormRow) (rows : List Switching) → AreOrdered rows → AreEpochs storm rows (all_runs (counts_of storm rows))
epochs_law storm rows ordered =
    let many = counts-length storm rows in
    all_law storm rows (counts_of storm rows) many (λ k within.
    in_force_law (time_of_step storm (k + 1)) rows (get_or (counts_of storm rows) k 0) ordered (count_at storm rows k (omega arith)))

-- the counts from a step on are its own and those from the next step on
counts_next : (storm : List StormRow) (rows : List Switching) (last : ℕ) → last < length (steps_in storm)
    → drop last (counts_of storm rows) ≡ length (rows_in_force (time_of_step storm (last + 1)) rows) ∷ drop (last + 1) (counts_of storm rows)
counts_next storm rows last within =
    let many = counts-length storm rows in
    let next : suc last ≡ last + 1 = omega arith in
    drop-cons (counts_of storm rows) last 0 (omega arith)
    ∙ ap (λ c. c ∷ drop (suc last) (counts_of storm rows)) (count_at storm rows last within)
    ∙ ap (λ n. length (rows_in_force (time_of_step storm (last + 1)) rows) ∷ drop n (counts_of storm rows)) next

equal_counts : (t : ℕ) → (t == t) ≡ true
equal_counts t = grind (arith, nat_tests)

unequal_counts : (c t : ℕ) → c ≢ t → (c == t) ≡ false
unequal_counts c t h = grind (arith, nat_tests, h)

-- a step with the same count goes on with the run
pub same_run : (storm : List StormRow) (rows : List Switching) (first last through : ℕ) → last < length (steps_in storm) → length (rows_in_force (time_of_step storm (last + 1)) rows) ≡ through
    → runs_after first (last + 1) through (drop (last + 1) (counts_of storm rows)) ≡ runs_after first last through (drop last (counts_of storm rows))
same_run storm rows first last through within same =
    rw (counts_next storm rows last within, same, equal_counts through) refl

-- a step with another count begins a run
pub next_run : (storm : List StormRow) (rows : List Switching) (first last through count : ℕ) → last < length (steps_in storm) → count ≡ length (rows_in_force (time_of_step storm (last + 1)) rows) → count ≢ through
    → record { first = first; last = last; through = through } ∷ runs_after (last + 1) (last + 1) count (drop (last + 1) (counts_of storm rows)) ≡ runs_after first last through (drop last (counts_of storm rows))
next_run storm rows first last through count within own other =
    rw (counts_next storm rows last within, ← own, unequal_counts count through other) refl

-- behind the last step the runs are done
pub last_run : (storm : List StormRow) (rows : List Switching) (prefix : List Epoch) (e : Epoch) → AreOrdered rows → e.last ≡ length (steps_in storm)
    → prefix ++ runs_after e.first e.last e.through (drop e.last (counts_of storm rows)) ≡ all_runs (counts_of storm rows) → AreEpochs storm rows (prefix ++ e ∷ [])
last_run storm rows prefix e ordered end all =
    let none : drop e.last (counts_of storm rows) ≡ [] = drop_all e.last (counts_of storm rows) (omega (arith, counts-length storm rows)) in
    subst (AreEpochs storm rows) (sym all ∙ ap (λ cs. prefix ++ runs_after e.first e.last e.through cs) none) (epochs_law storm rows ordered)

-- no fewer are in force at the next step
pub next_no_fewer : (storm : List StormRow) (rows : List Switching) (last : ℕ) → IsNonDecreasingBy (λ (r : StormRow). r.time) storm → 1 ≤ last → last < length (steps_in storm)
    → length (rows_in_force (time_of_step storm last) rows) ≤ length (rows_in_force (time_of_step storm (last + 1)) rows)
next_no_fewer storm rows zero ordered least within = absurd (omega arith)
next_no_fewer storm rows (suc k) ordered least within =
    let times = map first_time (steps_in storm) in
    let many : length times ≡ length (steps_in storm) = length-map (steps_in storm) first_time in
    let up = times_rise_law storm ordered k (omega arith) in
    let this : get_or times k 0 ≡ first_time (get_or (steps_in storm) k []) = get_or-map first_time (steps_in storm) k [] 0 (omega arith) in
    let that : get_or times (k + 1) 0 ≡ first_time (get_or (steps_in storm) (k + 1) []) = get_or-map first_time (steps_in storm) (k + 1) [] 0 (omega arith) in
    let back : suc k - 1 ≡ k = omega arith in
    let forth : suc k + 1 - 1 ≡ k + 1 = omega arith in
    rw (back, forth) (no_fewer (first_time (get_or (steps_in storm) k [])) (first_time (get_or (steps_in storm) (k + 1) [])) rows (omega arith))
