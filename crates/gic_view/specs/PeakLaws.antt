-- What a peak says of the numbers, one for each view, that the intervals of views enclose.
use Rattle.std.specs.Prelude.{◌≡◌, ℕ, ◌*◌, ◌<◌, ◌≤◌, List, length, slice_index_or, All, Option, None, Some, IfSome, IsNone, IsSome, MatchOption, ℤ, pos, ◌*ℤ◌, ◌<ℤ◌, ◌≤ℤ◌, unsigned_abs}
use Rattle.gic_fixed.specs.Encloses.{Encloses}
use Rattle.gic_fixed.specs.Ends.{Ends, IsAtMostWide}
use Rattle.gic_view.specs.View.{View, effective_at}
use Rattle.gic_view.specs.Peaks.{peak_of, shown_of_transformer, IsPeaksOf}
use Rattle.gic_view.specs.Absolute.{absolute_ends}

-- the interval that the view at this place shows
abbrev pub cell_at : List (Option Ends) → ℕ → Option Ends
cell_at cells place = slice_index_or cells place None

-- each interval that is shown encloses the number n/d of its view
abbrev pub AreEnclosed : (cells : List (Option Ends)) → (n : ℕ → ℤ) → (d : ℕ → ℕ) → Type 0
AreEnclosed cells n d = (k : ℕ) → IfSome (cell_at cells k) (λ e. Encloses e.low e.high (n k) (d k))

-- the peak encloses the greatest |n/d|: over the views that show an interval each is at most the high end, and one of
-- them is at least the low end
pub record EnclosesGreatest (cells : List (Option Ends)) (n : ℕ → ℤ) (d : ℕ → ℕ) (peak : Ends) : Type 0 where
  pub most : (k : ℕ) → IsSome (cell_at cells k) → pos (unsigned_abs (n k)) ≤ℤ (peak.high *ℤ pos (d k))
  pub reached : (k : ℕ) × IsSome (cell_at cells k) × ((peak.low *ℤ pos (d k)) ≤ℤ pos (unsigned_abs (n k)))

-- the peak of intervals that enclose numbers encloses the greatest of these; there is none only where no view shows an
-- interval
abbrev pub PeakEnclosesGreatest : Type 0
PeakEnclosesGreatest = (cells : List (Option Ends)) (n : ℕ → ℤ) (d : ℕ → ℕ) → AreEnclosed cells n d →
    MatchOption (peak_of cells) ((k : ℕ) → IsNone (cell_at cells k)) (EnclosesGreatest cells n d)

-- over one view or more a transformer's peak is the peak of its intervals
abbrev pub TransformerPeakIsPeak : Type 0
TransformerPeakIsPeak = (views : List View) (peaks : View) (t : ℕ) → IsPeaksOf views peaks → 0 < length views → t < length peaks.effective →
    peak_of (shown_of_transformer views t) ≡ Some (effective_at peaks t)

-- where the high end is under a threshold, |n/d| is under it at each view that shows an interval
abbrev pub BelowIsUnderThroughout : Type 0
BelowIsUnderThroughout = (cells : List (Option Ends)) (n : ℕ → ℤ) (d : ℕ → ℕ) (peak : Ends) (threshold : ℕ) →
    EnclosesGreatest cells n d peak → peak.high <ℤ pos threshold →
    (k : ℕ) → IsSome (cell_at cells k) → 0 < d k → unsigned_abs (n k) < threshold * d k

-- where the low end is a threshold or more, |n/d| is as much at one of them
abbrev pub ReachesIsAtLeastOnce : Type 0
ReachesIsAtLeastOnce = (cells : List (Option Ends)) (n : ℕ → ℤ) (d : ℕ → ℕ) (peak : Ends) (threshold : ℕ) →
    EnclosesGreatest cells n d peak → pos threshold ≤ℤ peak.low →
    (k : ℕ) × IsSome (cell_at cells k) × (threshold * d k ≤ unsigned_abs (n k))

-- no peak begins below 0
abbrev pub PeakIsNotNegative : Type 0
PeakIsNotNegative = (cells : List (Option Ends)) → IfSome (peak_of cells) (λ peak. pos 0 ≤ℤ peak.low)

-- an interval that doesn't begin below 0 is its own absolute interval
abbrev pub NotNegativeIsAbsolute : Type 0
NotNegativeIsAbsolute = (e : Ends) → pos 0 ≤ℤ e.low → e.low ≤ℤ e.high → absolute_ends e ≡ e

-- the interval is at most this wide
abbrev pub IsNoWiderThan : (width : ℕ) → Ends → Type 0
IsNoWiderThan width e = IsAtMostWide width e.low e.high

-- an absolute interval is no wider than the interval
abbrev pub AbsoluteIsNoWider : Type 0
AbsoluteIsNoWider = (width : ℕ) (e : Ends) → e.low ≤ℤ e.high → IsNoWiderThan width e → IsNoWiderThan width (absolute_ends e)

-- a peak is no wider than the widest absolute interval
abbrev pub PeakIsNoWider : Type 0
PeakIsNoWider = (width : ℕ) (cells : List (Option Ends)) →
    All (λ cell. IfSome cell (λ e. IsNoWiderThan width (absolute_ends e))) cells →
    IfSome (peak_of cells) (IsNoWiderThan width)
