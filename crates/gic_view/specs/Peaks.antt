-- The peak of intervals, and the peaks of views.
use Rattle.std.specs.Prelude.{◌≡◌, ℕ, ◌<◌, List, [], ◌∷◌, map, length, All, Option, Some, None, IfSome, option_map, unwrap_or}
use Rattle.std.specs.Int.{int_max}
use Rattle.gic_fixed.specs.Ends.{Ends, zero_ends}
use Rattle.gic_view.specs.View.{View, node_at, element_at, effective_at}
use Rattle.gic_view.specs.Absolute.{absolute_ends, HasAbsolute}

-- the greater low end and the greater high end
abbrev pub greater_ends : Ends → Ends → Ends
greater_ends a b = record { low = int_max a.low b.low; high = int_max a.high b.high }

-- the same of intervals that may be missing; where one is missing, the other
abbrev pub greater : Option Ends → Option Ends → Option Ends
greater None b = b
greater (Some a) None = Some a
greater (Some a) (Some b) = Some (greater_ends a b)

-- the greatest low end and the greatest high end of the absolute intervals that are there; none where there is none
abbrev pub peak_of : List (Option Ends) → Option Ends
peak_of [] = None
peak_of (cell ∷ cells) = greater (option_map absolute_ends cell) (peak_of cells)

-- what views show at a node, one after the other; at an element; and of a transformer, which each view shows
abbrev pub shown_at_node : List View → ℕ → List (Option Ends)
shown_at_node views place = map (λ view. node_at view place) views

abbrev pub shown_at_element : List View → ℕ → List (Option Ends)
shown_at_element views place = map (λ view. element_at view place) views

abbrev pub shown_of_transformer : List View → ℕ → List (Option Ends)
shown_of_transformer views place = map (λ view. Some (effective_at view place)) views

-- a view has as many nodes, elements and transformers as another one
pub record HasLengthsOf (other view : View) : Type 0 where
  pub nodes : length view.nodes ≡ length other.nodes
  pub elements : length view.elements ≡ length other.elements
  pub transformers : length view.effective ≡ length other.effective

-- the peaks of views: of what they show at each node, at each element and of each transformer; 0 to 0 for a
-- transformer where there is no view
pub record IsPeaksOf (views : List View) (peaks : View) : Type 0 where
  pub lengths : All (HasLengthsOf peaks) views
  pub nodes : (k : ℕ) → k < length peaks.nodes → node_at peaks k ≡ peak_of (shown_at_node views k)
  pub elements : (place : ℕ) → place < length peaks.elements → element_at peaks place ≡ peak_of (shown_at_element views place)
  pub transformers : (t : ℕ) → t < length peaks.effective → effective_at peaks t ≡ unwrap_or (peak_of (shown_of_transformer views t)) zero_ends

-- each interval of a view has an absolute one of 128 bits
pub record HasAbsolutes (view : View) : Type 0 where
  pub nodes : All (λ cell. IfSome cell HasAbsolute) view.nodes
  pub elements : All (λ cell. IfSome cell HasAbsolute) view.elements
  pub transformers : All HasAbsolute view.effective
