-- The greatest ends of intervals that may be missing.
use Rattle.std.proofs.Common.{◌≡◌, ℕ, zero, suc, List, [], ◌∷◌, ◌++◌, map, Option, None, Some, Bool, true, false, cond, int_lt, ◌⊎◌, inl, inr, ℤ, ◌≤ℤ◌, refl, sym, ap, ◌∙◌, arith}
use Rattle.std.specs.Prelude.{MatchOption}
use Rattle.std.proofs.lemmas.Int.{ints, clamps}
use Rattle.std.proofs.lemmas.List.{map-append}
use Rattle.std.specs.Int.{int_max}
use Rattle.gic_effective.specs.Narrow.{IsNoWider}
use Rattle.gic_fixed.specs.Ends.{Ends, IsAtMostWide}
use Rattle.gic_view.specs.Peaks.{greater, greater_ends}
use Rattle.gic_view.proofs.PeakSteps.{greater_assoc, greater-none}
use Rattle.gic_outage.specs.Outages.{greatest_worst, greatest_at}

-- an interval at the end is one more
greatest-push : (cells : List (Option Ends)) (cell : Option Ends) → greatest_worst (cells ++ cell ∷ []) ≡ greater (greatest_worst cells) cell
greatest-push [] cell = greater-none cell
greatest-push (c ∷ cells) cell = ap (greater c) (greatest-push cells cell) ∙ sym (greater_assoc c (greatest_worst cells) cell)

-- the same of what is shown one after the other
pub greatest-push_shown : {X : Type 0} (shown : X → Option Ends) (xs : List X) (x : X) → greatest_worst (map shown (xs ++ x ∷ [])) ≡ greater (greatest_worst (map shown xs)) (shown x)
greatest-push_shown shown xs x = ap greatest_worst (map-append shown xs (x ∷ [])) ∙ greatest-push (map shown xs) (shown x)

-- no high end is above that of these ends, and one of the intervals begins where they begin
pub record AreGreatest (cells : List (Option Ends)) (e : Ends) : Type 0 where
  pub most : (place : ℕ) (shown : Ends) → greatest_at cells place ≡ Some shown → shown.high ≤ℤ e.high
  pub place : ℕ
  pub shown : Ends
  pub is : greatest_at cells place ≡ Some shown
  pub begins : e.low ≡ shown.low

-- the same where there may be none
abbrev pub AreGreatestOf : List (Option Ends) → Option Ends → Type 0
AreGreatestOf cells greatest = MatchOption greatest ((place : ℕ) → greatest_at cells place ≡ None) (AreGreatest cells)

no_shown : {C : Type 0} (e : Ends) → None ≡ Some e → C
no_shown e h = absurd (cc)

-- behind a missing interval
behind_none : (cells : List (Option Ends)) (greatest : Option Ends) → AreGreatestOf cells greatest → AreGreatestOf (None ∷ cells) greatest
behind_none cells None none = place_of
  where
    place_of : (place : ℕ) → greatest_at (None ∷ cells) place ≡ None
    place_of zero = refl
    place_of (suc place) = none place
behind_none cells (Some e) are = record { most = most; place = suc are.place; shown = are.shown; is = are.is; begins = are.begins }
  where
    most : (place : ℕ) (shown : Ends) → greatest_at (None ∷ cells) place ≡ Some shown → shown.high ≤ℤ e.high
    most zero shown is = no_shown shown is
    most (suc place) shown is = are.most place shown is

same_high : (a b : Ends) → Some a ≡ Some b → b.high ≤ℤ a.high
same_high a b h = let e : a.high ≡ b.high = cc in omega (arith, ints, e)

under_max_right : (a b c : ℤ) → a ≤ℤ c → a ≤ℤ int_max b c
under_max_right a b c h = omega (arith, ints, clamps, h)

max_is_one : (a b : ℤ) → (int_max a b ≡ a) ⊎ (int_max a b ≡ b)
max_is_one a b = by (int_lt b a)
  where
    by : (t : Bool) → (cond t a b ≡ a) ⊎ (cond t a b ≡ b)
    by true = inl refl
    by false = inr refl

under_max_left : (a b c : ℤ) → a ≤ℤ b → a ≤ℤ int_max b c
under_max_left a b c h = omega (arith, ints, clamps, h)

-- behind one that is there
behind_some : (a : Ends) (cells : List (Option Ends)) (greatest : Option Ends) → AreGreatestOf cells greatest → AreGreatestOf (Some a ∷ cells) (greater (Some a) greatest)
behind_some a cells None none = record { most = most; place = zero; shown = a; is = refl; begins = refl }
  where
    most : (place : ℕ) (shown : Ends) → greatest_at (Some a ∷ cells) place ≡ Some shown → shown.high ≤ℤ a.high
    most zero shown is = same_high a shown is
    most (suc place) shown is = no_shown shown (sym (none place) ∙ is)
behind_some a cells (Some e) are = by (max_is_one a.low e.low)
  where
    most : (place : ℕ) (shown : Ends) → greatest_at (Some a ∷ cells) place ≡ Some shown → shown.high ≤ℤ int_max a.high e.high
    most zero shown is = under_max_left shown.high a.high e.high (same_high a shown is)
    most (suc place) shown is = under_max_right shown.high a.high e.high (are.most place shown is)

    by : (int_max a.low e.low ≡ a.low) ⊎ (int_max a.low e.low ≡ e.low) → AreGreatest (Some a ∷ cells) (greater_ends a e)
    by (inl first) = record { most = most; place = zero; shown = a; is = refl; begins = first }
    by (inr later) = record { most = most; place = suc are.place; shown = are.shown; is = are.is; begins = later ∙ are.begins }

-- so of all
pub all_greatest : (cells : List (Option Ends)) → AreGreatestOf cells (greatest_worst cells)
all_greatest [] = λ place. refl
all_greatest (None ∷ cells) = behind_none cells (greatest_worst cells) (all_greatest cells)
all_greatest (Some a ∷ cells) = behind_some a cells (greatest_worst cells) (all_greatest cells)

-- where no interval is wider than this, the greatest ends aren't either
narrow_more : (width : ℕ) (a : Ends) (rest : Option Ends) → IsAtMostWide width a.low a.high → IsNoWider width rest → IsNoWider width (greater (Some a) rest)
narrow_more width a None narrow rest = narrow
narrow_more width a (Some b) narrow rest = omega (arith, ints, clamps, narrow, rest)

pub greatest_narrow : (width : ℕ) (cells : List (Option Ends)) → ((place : ℕ) (shown : Ends) → greatest_at cells place ≡ Some shown → IsAtMostWide width shown.low shown.high) → IsNoWider width (greatest_worst cells)
greatest_narrow width [] narrow = tt
greatest_narrow width (None ∷ cells) narrow = greatest_narrow width cells (λ place. narrow (suc place))
greatest_narrow width (Some a ∷ cells) narrow = narrow_more width a (greatest_worst cells) (narrow zero a refl) (greatest_narrow width cells (λ place. narrow (suc place)))
