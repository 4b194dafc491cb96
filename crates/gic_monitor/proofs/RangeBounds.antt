-- The exact currents that views enclose, against the range of an earthing.
use Rattle.std.proofs.Common.{◌≡◌, ℕ, ℤ, ◌≤ℤ◌, List, [], ◌∷◌, map, refl, subst}
use Rattle.std.specs.Prelude.{Option, Some, None, IsSomeAnd, Contains}
use Rattle.std.specs.List.{AllByRecursion, cons_option}
use Rattle.std.proofs.lemmas.List.Elements.{All-from_recursion, recursion_from_All, All-contains}
use Rattle.std.proofs.lemmas.Int.{fold-int_min_bounds, fold-int_max_bounds}
use Rattle.gic_fixed.specs.Ends.{Ends}
use Rattle.gic_fixed.specs.Encloses.{Encloses}
use Rattle.gic_fixed.proofs.Enclosures.{Encloses-outer}
use Rattle.gic_view.specs.View.{View, element_at}
use Rattle.gic_monitor.specs.EarthText.{range_among, range_of, standing_ends}

-- the interval lies within the range
record IsInside (range ends : Ends) : Type 0 where
  low : range.low ≤ℤ ends.low
  high : ends.high ≤ℤ range.high

-- from all low ends and all high ends to the intervals
inside_each : (range : Ends) (es : List Ends) → AllByRecursion (λ z. range.low ≤ℤ z) (map (λ e. e.low) es) → AllByRecursion (λ z. z ≤ℤ range.high) (map (λ e. e.high) es) →
    AllByRecursion (IsInside range) es
inside_each range [] h k = tt
inside_each range (e ∷ es) h k = (record { low = h.0; high = k.0 }, inside_each range es h.1 k.1)

-- the range holds each interval
range_holds : (first : Ends) (others : List Ends) → AllByRecursion (IsInside (range_among first others)) (first ∷ others)
range_holds first others =
    let range = range_among first others in
    let lows = fold-int_min_bounds first.low (map (λ e. e.low) others) range.low refl in
    let highs = fold-int_max_bounds first.high (map (λ e. e.high) others) range.high refl in
    inside_each range (first ∷ others) (lows.0, recursion_from_All _ _ lows.1) (highs.0, recursion_from_All _ _ highs.1)

-- the same of one view: what holds of each interval that shows holds of its interval, if it has one
next_shown : (Q : Ends → Type 0) (o : Option Ends) (rest : List Ends) → AllByRecursion Q (cons_option o rest) → ((ends : Ends) → o ≡ Some ends → Q ends) × AllByRecursion Q rest
next_shown Q None rest h = ((λ ends e. absurd (let f : None ≡ Some ends = e in cc)), h)
next_shown Q (Some x) rest h = ((λ ends e. let same : x ≡ ends = cc in subst Q same h.0), h.1)

-- what holds of each interval that shows holds of a view's
shown : (element : ℕ) (Q : Ends → Type 0) (views : List View) → AllByRecursion Q (standing_ends element views) →
    AllByRecursion (λ view. (ends : Ends) → element_at view element ≡ Some ends → Q ends) views
shown element Q [] h = tt
shown element Q (view ∷ views) h =
    let next = next_shown Q (element_at view element) (standing_ends element views) h in
    (next.0, shown element Q views next.1)

-- what an interval among these encloses, their range encloses
enclosed : (es : List Ends) (ends : Ends) (n : ℤ) (d : ℕ) → ((Q : Ends → Type 0) → AllByRecursion Q es → Q ends) → Encloses ends.low ends.high n d →
    IsSomeAnd (range_of es) (λ range. Encloses range.low range.high n d)
enclosed [] ends n d member e = absurd (member (λ _. ⊥) tt)
enclosed (first ∷ others) ends n d member e =
    let range = range_among first others in
    let inside = member (IsInside range) (range_holds first others) in
    Encloses-outer ends.low ends.high range.low range.high n d inside.low inside.high e

-- each current of a view lies within the range
pub range_encloses : (element : ℕ) (views : List View) (view : View) (ends : Ends) (n : ℤ) (d : ℕ) → Contains views view → element_at view element ≡ Some ends → Encloses ends.low ends.high n d →
    IsSomeAnd (range_of (standing_ends element views)) (λ range. Encloses range.low range.high n d)
range_encloses element views view ends n d among stands e =
    enclosed (standing_ends element views) ends n d
    (λ Q h. All-contains (λ v. (ends : Ends) → element_at v element ≡ Some ends → Q ends) views view (All-from_recursion _ views (shown element Q views h)) among ends stands) e
