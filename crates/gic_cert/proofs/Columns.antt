-- A certificate and its columns.
use Rattle.std.proofs.Common.{◌≡◌, ℕ, zero, suc, ◌+◌, ◌≤◌, cond, Option, Some, List, [], ◌∷◌, None, length, map, get_or, ℤ, pos, ◌+ℤ◌, ◌-ℤ◌, slice_index, arith, refl, ap, sym, subst, ◌∙◌, ◌^◌, unsigned_abs, IfSome}
use Rattle.std.specs.List.{enumerate_from}
use Rattle.std.specs.Option.{option_map_or, is_some}
use Rattle.gic_fixed.specs.Ends.{Ends}
use Rattle.gic_model.specs.Voltages.{number_at}
use Rattle.gic_cert.specs.Written.{Written, Certificate, written_at, entry_of, guess_of, radius_of, interval_of, IsWritten, IsWrittenNode}
use Rattle.gic_cert.specs.Columns.{written_of, written_rows, IsKept}

rows_from : (f : ℕ → ℤ) (g : ℕ → ℕ) (n : ℕ) (vs : List ℕ) (k : ℕ) →
    get_or (map (λ p. written_of p.1 (f p.0) (g p.0)) (enumerate_from n vs)) k None ≡ written_of (get_or vs k 0) (f (n + k)) (g (n + k))
rows_from f g n [] zero = refl
rows_from f g n [] (suc k) = refl
rows_from f g n (v ∷ vs) zero = let e : n + 0 ≡ n = omega arith in sym (ap (λ m. written_of v (f m) (g m)) e)
rows_from f g n (v ∷ vs) (suc k) =
    let e : n + 1 + k ≡ n + suc k = omega arith in
    rows_from f g (n + 1) vs k ∙ ap (λ m. written_of (get_or vs k 0) (f m) (g m)) e

count_from : (f : ℕ → ℤ) (g : ℕ → ℕ) (n : ℕ) (vs : List ℕ) → length (map (λ p. written_of p.1 (f p.0) (g p.0)) (enumerate_from n vs)) ≡ length vs
count_from f g n [] = refl
count_from f g n (v ∷ vs) = ap suc (count_from f g (n + 1) vs)

entry_is : (v : ℕ) (x : ℤ) (r : ℕ) → option_map_or (λ w. w.entry) (written_of v x r) 0 ≡ v
entry_is zero x r = refl
entry_is (suc v) x r = refl

guess_is : (v : ℕ) (x : ℤ) (r : ℕ) → (v ≡ 0 → x ≡ pos 0) → option_map_or (λ w. w.guess) (written_of v x r) (pos 0) ≡ x
guess_is zero x r h = sym (h refl)
guess_is (suc v) x r h = refl

radius_is : (v : ℕ) (x : ℤ) (r : ℕ) → (v ≡ 0 → r ≡ 0) → option_map_or (λ w. w.radius) (written_of v x r) 0 ≡ r
radius_is zero x r h = sym (h refl)
radius_is (suc v) x r h = refl

-- what is written of a node, from its numbers
written_some : (v : ℕ) (x : ℤ) (r : ℕ) → 1 ≤ v → written_of v x r ≡ Some (record { entry = v; guess = x; radius = r })
written_some zero x r h = absurd (omega (arith, h))
written_some (suc v) x r h = refl

written_back : (w : Option Written) → IfSome w IsWrittenNode →
    written_of (option_map_or (λ w. w.entry) w 0) (option_map_or (λ w. w.guess) w (pos 0)) (option_map_or (λ w. w.radius) w 0) ≡ w
written_back None h = refl
written_back (Some w) h = written_some w.entry w.guess w.radius h.entry_some

-- the numbers that are no further than the radius from the guess
abbrev interval_in : Option Written → Option Ends
interval_in w = cond (is_some w) (Some (record {
  low = option_map_or (λ w. w.guess) w (pos 0) -ℤ pos (option_map_or (λ w. w.radius) w 0);
  high = option_map_or (λ w. w.guess) w (pos 0) +ℤ pos (option_map_or (λ w. w.radius) w 0);
})) None

pub interval_none : (c : Certificate) (k v : ℕ) (x : ℤ) (r : ℕ) → written_of v x r ≡ written_at c k → v ≡ 0 → None ≡ interval_of c k
interval_none c k zero x r e h = ap interval_in e
interval_none c k (suc v) x r e h = absurd (omega (arith, h))

pub interval_some : (c : Certificate) (k v : ℕ) (x : ℤ) (r : ℕ) → written_of v x r ≡ written_at c k → 1 ≤ v → Some (record { low = x -ℤ pos r; high = x +ℤ pos r }) ≡ interval_of c k
interval_some c k zero x r e h = absurd (omega (arith, h))
interval_some c k (suc v) x r e h = ap interval_in e

module _ (north east : ℤ) (entries : List ℕ) (guesses : List ℤ) (radii : List ℕ) where
  abbrev pub cert : Certificate
  cert = record { north = north; east = east; nodes = written_rows entries guesses radii }

  pub count_is : length (written_rows entries guesses radii) ≡ length entries
  count_is = count_from (number_at guesses) (slice_index radii) 0 entries

  pub row_is : (k : ℕ) → written_at cert k ≡ written_of (slice_index entries k) (number_at guesses k) (slice_index radii k)
  row_is k =
      let e : 0 + k ≡ k = omega arith in
      rows_from (number_at guesses) (slice_index radii) 0 entries k ∙ ap (λ m. written_of (slice_index entries k) (number_at guesses m) (slice_index radii m)) e

  pub entries_are : (k : ℕ) → entry_of cert k ≡ slice_index entries k
  entries_are k = ap (λ w. option_map_or (λ w. w.entry) w 0) (row_is k) ∙ entry_is (slice_index entries k) (number_at guesses k) (slice_index radii k)

  pub entries_same : slice_index entries ≡ entry_of cert
  entries_same = λ i k. sym (entries_are k) i

  module _ (h : IsKept north east entries guesses radii) where
    pub guesses_are : (k : ℕ) → guess_of cert k ≡ number_at guesses k
    guesses_are k =
        ap (λ w. option_map_or (λ w. w.guess) w (pos 0)) (row_is k) ∙ guess_is (slice_index entries k) (number_at guesses k) (slice_index radii k) (h.dead_guess k)

    pub radii_are : (k : ℕ) → radius_of cert k ≡ slice_index radii k
    radii_are k =
        ap (λ w. option_map_or (λ w. w.radius) w 0) (row_is k) ∙ radius_is (slice_index entries k) (number_at guesses k) (slice_index radii k) (h.dead_radius k)

    pub guesses_same : number_at guesses ≡ guess_of cert
    guesses_same = λ i k. sym (guesses_are k) i

    -- all numbers are in their ranges
    node_written : (v : ℕ) (x : ℤ) (r : ℕ) → v ≤ 4096 → unsigned_abs x ≤ 2 ^ 95 → r ≤ 2 ^ 126 → IfSome (written_of v x r) IsWrittenNode
    node_written zero x r a b d = tt
    node_written (suc v) x r a b d = record { entry_some = omega arith; entry_most = a; guess = b; radius = d }

    pub written : IsWritten cert
    written = record {
      north = h.north_range;
      east = h.east_range;
      each = λ k. subst (λ w. IfSome w IsWrittenNode) (sym (row_is k))
          (node_written (slice_index entries k) (number_at guesses k) (slice_index radii k) (h.entry_range k) (h.guess_range k) (h.radius_range k));
    }
