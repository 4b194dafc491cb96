-- The view of a step, with each interval as its two ends.
use Rattle.std.specs.Prelude.{ℕ, List, Option, None, slice_index_or}
use Rattle.gic_fixed.specs.Ends.{Ends, zero_ends}

-- a step's number, its time in seconds, an interval for each node in mV where it is live, for each element in mA where it stands,
-- and for each transformer, signed, in mA per phase
pub record View : Type 0 where
  pub number : ℕ
  pub time : ℕ
  pub nodes : List (Option Ends)
  pub elements : List (Option Ends)
  pub effective : List Ends

-- the interval at this place; none, and 0 alone for a transformer, where the view has no such place
abbrev pub node_at : View → ℕ → Option Ends
node_at view place = slice_index_or view.nodes place None

abbrev pub element_at : View → ℕ → Option Ends
element_at view place = slice_index_or view.elements place None

abbrev pub effective_at : View → ℕ → Ends
effective_at view place = slice_index_or view.effective place zero_ends
