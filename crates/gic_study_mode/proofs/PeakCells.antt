-- The peaks of narrow views are narrow.
use Rattle.std.proofs.Common.{◌≡◌, ℕ, ◌<◌, List, map, length, Option, Some, None, pos, ◌≤ℤ◌, sym, subst, arith}
use Rattle.std.specs.Prelude.{All, IfSome}
use Rattle.std.proofs.lemmas.List.{get_or-map, length-map}
use Rattle.std.proofs.lemmas.List.Elements.{All-get_or, All-from_get_or}
use Rattle.gic_report.proofs.Absolutes.{absolute_narrow}
use Rattle.gic_fixed.specs.Ends.{Ends}
use Rattle.gic_case.specs.Lists.{Lists}
use Rattle.gic_view.specs.View.{View, node_at, element_at, effective_at}
use Rattle.gic_view.specs.Kept.{blank_view}
use Rattle.gic_effective.specs.Narrow.{IsNoWider, IsNarrowView}
use Rattle.gic_effective.specs.ViewLengths.{HasViewLengths}
use Rattle.gic_view.specs.Peaks.{peak_of, shown_of_transformer, IsPeaksOf}
use Rattle.gic_view.specs.Absolute.{absolute_ends}
use Rattle.gic_view.specs.PeakLaws.{IsNoWiderThan, PeakIsNoWider, PeakIsNotNegative, TransformerPeakIsPeak}
use Rattle.gic_course.specs.Views.{AreNarrowViews, view_at}

cell_narrow : (width : ℕ) (cell : Option Ends) → IsNoWider width cell → IfSome cell (λ e. IsNoWiderThan width (absolute_ends e))
cell_narrow width None narrow = tt
cell_narrow width (Some e) narrow = absolute_narrow e.low e.high width narrow

peak_no_wider : (width : ℕ) (peak : Option Ends) → IfSome peak (IsNoWiderThan width) → IsNoWider width peak
peak_no_wider width None narrow = tt
peak_no_wider width (Some e) narrow = narrow

-- what is said of each view is said of what each shows
each_cell : (P : Option Ends → Type 0) (shown : View → Option Ends) (views : List View) → ((place : ℕ) → place < length views → P (shown (view_at views place))) → All P (map shown views)
each_cell P shown views own =
    let many : length (map shown views) ≡ length views = length-map views shown in
    All-from_get_or P (map shown views) None (λ place within.
    let there : place < length views = omega (arith, within, many) in
    subst P (sym (get_or-map shown views place (blank_view 0 0 0) None there)) (own place there))

narrow_peak : PeakIsNoWider → (width : ℕ) (shown : View → Option Ends) (views : List View) → ((place : ℕ) → place < length views → IsNoWider width (shown (view_at views place))) → IsNoWider width (peak_of (map shown views))
narrow_peak law width shown views narrow =
    peak_no_wider width (peak_of (map shown views)) (law width (map shown views)
    (each_cell (λ cell. IfSome cell (λ e. IsNoWiderThan width (absolute_ends e))) shown views (λ place within. cell_narrow width (shown (view_at views place)) (narrow place within))))

pub narrow_peaks : PeakIsNoWider → TransformerPeakIsPeak → (case : Lists) (width : ℕ) (views : List View) (peaks : View) → AreNarrowViews case width views → IsPeaksOf views peaks → HasViewLengths case peaks → 0 < length views
    → IsNarrowView case width peaks
narrow_peaks law is_peak case width views peaks narrow peaks_are lengths some =
    let each : (place : ℕ) → place < length views → IsNarrowView case width (view_at views place) = λ place within. All-get_or (IsNarrowView case width) views place (blank_view 0 0 0) within narrow in
    record {
      lengths = lengths;
      nodes = λ k within. subst (IsNoWider width) (sym (peaks_are.nodes k (omega (arith, within, lengths.nodes))))
          (narrow_peak law width (λ view. node_at view k) views (λ place inside. (each place inside).nodes k within));
      elements = λ e within. subst (IsNoWider width) (sym (peaks_are.elements e (omega (arith, within, lengths.elements))))
          (narrow_peak law width (λ view. element_at view e) views (λ place inside. (each place inside).elements e within));
      effective = λ t within. subst (IsNoWider width) (is_peak views peaks t peaks_are some (omega (arith, within, lengths.transformers)))
          (narrow_peak law width (λ view. Some (effective_at view t)) views (λ place inside. (each place inside).effective t within));
    }

-- the peak of a transformer doesn't begin below 0
pub not_negative_peaks : PeakIsNotNegative → TransformerPeakIsPeak → (case : Lists) (views : List View) (peaks : View) → IsPeaksOf views peaks → HasViewLengths case peaks → 0 < length views
    → (t : ℕ) → t < length case.transformers → pos 0 ≤ℤ (effective_at peaks t).low
not_negative_peaks not_negative is_peak case views peaks peaks_are lengths some t within =
    subst (λ (cell : Option Ends). IfSome cell (λ peak. pos 0 ≤ℤ peak.low)) (is_peak views peaks t peaks_are some (omega (arith, within, lengths.transformers))) (not_negative (shown_of_transformer views t))
