-- The greater ends of intervals that may be missing, and the peak with one more interval.
use Rattle.std.proofs.Common.{◌≡◌, List, [], ◌∷◌, ◌++◌, map, Option, None, Some, ℤ, pos, ◌≤ℤ◌, option_map, unwrap_or, refl, sym, ap, ◌∙◌, arith}
use Rattle.std.proofs.lemmas.Int.{ints, clamps}
use Rattle.std.proofs.lemmas.List.{map-append}
use Rattle.std.specs.Int.{int_max}
use Rattle.gic_fixed.specs.Ends.{Ends, zero_ends}
use Rattle.gic_fixed.specs.Rounding.{least_abs, greatest_abs}
use Rattle.gic_view.specs.View.{View}
use Rattle.gic_view.specs.Peaks.{greater_ends, greater, peak_of}
use Rattle.gic_view.specs.Absolute.{absolute_ends}

max_assoc : (a b c : ℤ) → int_max (int_max a b) c ≡ int_max a (int_max b c)
max_assoc a b c = omega (arith, ints, clamps)

pub same_ends : (low low' high high' : ℤ) → low ≡ low' → high ≡ high' → let e : Ends = record { low = low; high = high } in e ≡ record { low = low'; high = high' }
same_ends low low' high high' e f = cc

-- the greatest of three is the same however they are joined
pub greater_assoc : (a b c : Option Ends) → greater (greater a b) c ≡ greater a (greater b c)
greater_assoc None b c = refl
greater_assoc (Some a) None c = refl
greater_assoc (Some a) (Some b) None = refl
greater_assoc (Some a) (Some b) (Some c) = ap Some (same_ends _ _ _ _ (max_assoc a.low b.low c.low) (max_assoc a.high b.high c.high))

pub greater-none : (a : Option Ends) → greater a None ≡ a
greater-none None = refl
greater-none (Some a) = refl

-- an interval at the end is one more
pub peak-push : (cells : List (Option Ends)) (cell : Option Ends) → peak_of (cells ++ cell ∷ []) ≡ greater (peak_of cells) (option_map absolute_ends cell)
peak-push [] cell = greater-none (option_map absolute_ends cell)
peak-push (c ∷ cells) cell =
    ap (greater (option_map absolute_ends c)) (peak-push cells cell)
    ∙ sym (greater_assoc (option_map absolute_ends c) (peak_of cells) (option_map absolute_ends cell))

-- the same of what views show
pub peak-push_shown : (shown : View → Option Ends) (views : List View) (view : View) → peak_of (map shown (views ++ view ∷ [])) ≡ greater (peak_of (map shown views)) (option_map absolute_ends (shown view))
peak-push_shown shown views view = ap peak_of (map-append shown views (view ∷ [])) ∙ peak-push (map shown views) (shown view)

above_zero : (a : ℤ) → pos 0 ≤ℤ a → a ≡ int_max (pos 0) a
above_zero a h = omega (arith, ints, clamps)

-- 0 to 0 in place of no peak takes nothing from an absolute interval
pub unwrapped : (peak : Option Ends) (e : Ends) → e.low ≤ℤ e.high → greater_ends (unwrap_or peak zero_ends) (absolute_ends e) ≡ unwrap_or (greater peak (Some (absolute_ends e))) zero_ends
unwrapped None e ordered = sym (same_ends _ _ _ _
    (above_zero (least_abs e.low e.high) (omega (arith, ints, clamps)))
    (above_zero (greatest_abs e.low e.high) (omega (arith, ints, clamps, ordered))))
unwrapped (Some peak) e ordered = refl
