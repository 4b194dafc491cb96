-- A peak encloses the greatest of the numbers that intervals enclose, and is no wider than these intervals.
use Rattle.std.proofs.Common.{All, ◌≡◌, ℕ, zero, suc, ◌<◌, List, [], ◌∷◌, length, Option, None, Some, unwrap_or, IfSome, IsNone, IsSome, MatchOption, Bool, true, false, cond, int_lt, ◌⊎◌, inl, inr, ℤ, pos, ◌*ℤ◌, ◌≤ℤ◌, unsigned_abs, refl, sym, ap, arith}
use Rattle.std.proofs.lemmas.Int.{ints, clamps}
use Rattle.std.proofs.lemmas.List.Elements.{All-head, All-tail}
use Rattle.std.specs.Int.{int_max}
use Rattle.gic_fixed.specs.Encloses.{EnclosesAbsolute}
use Rattle.gic_fixed.specs.Ends.{Ends, zero_ends}
use Rattle.gic_fixed.specs.Rounding.{least_abs, greatest_abs}
use Rattle.gic_fixed.proofs.Enclosures.{Encloses-abs, ≤ℤ-times}
use Rattle.gic_fixed.proofs.Integers.{linear}
use Rattle.gic_view.specs.View.{View, effective_at}
use Rattle.gic_view.specs.Peaks.{greater_ends, greater, peak_of, shown_of_transformer, IsPeaksOf}
use Rattle.gic_view.specs.Absolute.{absolute_ends}
use Rattle.gic_view.specs.PeakLaws.{cell_at, AreEnclosed, EnclosesGreatest, IsNoWiderThan}
use Rattle.gic_view.proofs.PeakSteps.{same_ends}

by_place : (P : ℕ → Type 0) → P zero → ((k : ℕ) → P (suc k)) → (k : ℕ) → P k
by_place P first later zero = first
by_place P first later (suc k) = later k

max_above_left : (a b : ℤ) → a ≤ℤ int_max a b
max_above_left a b = omega (arith, ints, clamps)

max_above_right : (a b : ℤ) → b ≤ℤ int_max a b
max_above_right a b = omega (arith, ints, clamps)

max_below_one : (a b : ℤ) → (int_max a b ≤ℤ a) ⊎ (int_max a b ≤ℤ b)
max_below_one a b = by (int_lt b a)
  where
    by : (t : Bool) → (cond t a b ≤ℤ a) ⊎ (cond t a b ≤ℤ b)
    by true = inl (omega (arith, ints))
    by false = inr (omega (arith, ints))

-- what is under an end is under a greater one
under_greater : (m high most : ℤ) (d : ℕ) → high ≤ℤ most → m ≤ℤ (high *ℤ pos d) → m ≤ℤ (most *ℤ pos d)
under_greater m high most d more h = let times = ≤ℤ-times high most d more in omega (arith, linear)

-- what is above an end is above a lesser one
above_lesser : (m low least : ℤ) (d : ℕ) → least ≤ℤ low → (low *ℤ pos d) ≤ℤ m → (least *ℤ pos d) ≤ℤ m
above_lesser m low least d less h = let times = ≤ℤ-times least low d less in omega (arith, linear)

-- what a peak, if there is one, says of numbers
abbrev IsGreatest : List (Option Ends) → (ℕ → ℤ) → (ℕ → ℕ) → Option Ends → Type 0
IsGreatest cells n d peak = MatchOption peak ((k : ℕ) → IsNone (cell_at cells k)) (EnclosesGreatest cells n d)

not_both : (o : Option Ends) → IsNone o → IsSome o → ⊥
not_both None none some = cc
not_both (Some e) none some = cc

-- a view that shows nothing
after_none : (peak : Option Ends) (cells : List (Option Ends)) (n : ℕ → ℤ) (d : ℕ → ℕ) →
    IsGreatest cells (λ k. n (suc k)) (λ k. d (suc k)) peak → IsGreatest (None ∷ cells) n d peak
after_none None cells n d none = by_place (λ k. IsNone (cell_at (None ∷ cells) k)) refl none
after_none (Some peak) cells n d rest = record {
  most = by_place (λ k. IsSome (cell_at (None ∷ cells) k) → pos (unsigned_abs (n k)) ≤ℤ (peak.high *ℤ pos (d k)))
      (λ some. absurd (not_both None refl some)) rest.most;
  reached = (suc rest.reached.0, rest.reached.1, rest.reached.2);
}

-- a view that shows an interval
after_some : (e : Ends) (peak : Option Ends) (cells : List (Option Ends)) (n : ℕ → ℤ) (d : ℕ → ℕ) → EnclosesAbsolute (absolute_ends e).low (absolute_ends e).high (n 0) (d 0) →
    IsGreatest cells (λ k. n (suc k)) (λ k. d (suc k)) peak → IsGreatest (Some e ∷ cells) n d (greater (Some (absolute_ends e)) peak)
after_some e None cells n d first none = record {
  most = by_place (λ k. IsSome (cell_at (Some e ∷ cells) k) → pos (unsigned_abs (n k)) ≤ℤ ((absolute_ends e).high *ℤ pos (d k)))
      (λ some. first.below_hi) (λ k some. absurd (not_both (cell_at cells k) (none k) some));
  reached = (0, refl, first.above_lo);
}
after_some e (Some peak) cells n d first rest =
    let both = greater_ends (absolute_ends e) peak in
    record {
      most = by_place (λ k. IsSome (cell_at (Some e ∷ cells) k) → pos (unsigned_abs (n k)) ≤ℤ (both.high *ℤ pos (d k)))
          (λ some. under_greater (pos (unsigned_abs (n 0))) (absolute_ends e).high both.high (d 0) (max_above_left (absolute_ends e).high peak.high) first.below_hi)
          (λ k some. under_greater (pos (unsigned_abs (n (suc k)))) peak.high both.high (d (suc k)) (max_above_right (absolute_ends e).high peak.high) (rest.most k some));
      reached = elim (max_below_one (absolute_ends e).low peak.low) [
        | inl here ↦ (0, refl, above_lesser (pos (unsigned_abs (n 0))) (absolute_ends e).low both.low (d 0) here first.above_lo)
        | inr later ↦
            let k = rest.reached.0 in
            (suc k, rest.reached.1, above_lesser (pos (unsigned_abs (n (suc k)))) peak.low both.low (d (suc k)) later rest.reached.2)
      ];
    }

pub peak_encloses : (cells : List (Option Ends)) (n : ℕ → ℤ) (d : ℕ → ℕ) → AreEnclosed cells n d → IsGreatest cells n d (peak_of cells)
peak_encloses [] n d h = λ k. refl
peak_encloses (None ∷ cells) n d h = after_none (peak_of cells) cells n d (peak_encloses cells (λ k. n (suc k)) (λ k. d (suc k)) (λ k. h (suc k)))
peak_encloses (Some e ∷ cells) n d h =
    after_some e (peak_of cells) cells n d (Encloses-abs e.low e.high (n 0) (d 0) (h 0)) (peak_encloses cells (λ k. n (suc k)) (λ k. d (suc k)) (λ k. h (suc k)))

greater_narrow : (width : ℕ) (a : Ends) (peak : Option Ends) → IsNoWiderThan width a → IfSome peak (IsNoWiderThan width) → IfSome (greater (Some a) peak) (IsNoWiderThan width)
greater_narrow width a None h rest = h
greater_narrow width a (Some b) h rest = omega (arith, ints, clamps)

-- an absolute interval, if there is one, is narrow
abbrev IsNarrowCell : ℕ → Option Ends → Type 0
IsNarrowCell width cell = IfSome cell (λ e. IsNoWiderThan width (absolute_ends e))

pub peak_narrow : (width : ℕ) (cells : List (Option Ends)) → All (IsNarrowCell width) cells → IfSome (peak_of cells) (IsNoWiderThan width)
peak_narrow width [] h = tt
peak_narrow width (None ∷ cells) h = peak_narrow width cells (All-tail (IsNarrowCell width) None cells h)
peak_narrow width (Some e ∷ cells) h =
    greater_narrow width (absolute_ends e) (peak_of cells) (All-head (IsNarrowCell width) (Some e) cells h) (peak_narrow width cells (All-tail (IsNarrowCell width) (Some e) cells h))

greater_not_negative : (a : Ends) (peak : Option Ends) → pos 0 ≤ℤ a.low → IfSome (greater (Some a) peak) (λ p. pos 0 ≤ℤ p.low)
greater_not_negative a None h = h
greater_not_negative a (Some b) h = omega (arith, ints, clamps)

pub peak_not_negative : (cells : List (Option Ends)) → IfSome (peak_of cells) (λ peak. pos 0 ≤ℤ peak.low)
peak_not_negative [] = tt
peak_not_negative (None ∷ cells) = peak_not_negative cells
peak_not_negative (Some e ∷ cells) = greater_not_negative (absolute_ends e) (peak_of cells) (omega (arith, ints, clamps))

unwrapped_peak : (e peak : Ends) (rest : Option Ends) → peak ≡ unwrap_or (greater (Some e) rest) zero_ends → greater (Some e) rest ≡ Some peak
unwrapped_peak e peak None h = ap Some (sym h)
unwrapped_peak e peak (Some other) h = ap Some (sym h)

-- where there is a view, 0 to 0 doesn't stand for a transformer's peak
pub transformer_peak : (views : List View) (peaks : View) (t : ℕ) → IsPeaksOf views peaks → 0 < length views → t < length peaks.effective → peak_of (shown_of_transformer views t) ≡ Some (effective_at peaks t)
transformer_peak [] peaks t h some inside = absurd (omega (arith, some))
transformer_peak (view ∷ views) peaks t h some inside =
    unwrapped_peak (absolute_ends (effective_at view t)) (effective_at peaks t) (peak_of (shown_of_transformer views t)) (h.transformers t inside)

own_least : (low high : ℤ) → pos 0 ≤ℤ low → low ≤ℤ high → least_abs low high ≡ low
own_least low high h ordered = omega (arith, ints, clamps)

own_greatest : (low high : ℤ) → pos 0 ≤ℤ low → low ≤ℤ high → greatest_abs low high ≡ high
own_greatest low high h ordered = omega (arith, ints, clamps)

pub own_absolute : (e : Ends) → pos 0 ≤ℤ e.low → e.low ≤ℤ e.high → absolute_ends e ≡ e
own_absolute e h ordered = same_ends _ _ _ _ (own_least e.low e.high h ordered) (own_greatest e.low e.high h ordered)
