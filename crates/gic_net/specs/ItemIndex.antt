-- An index from the numbers of items to the places of their elements.
use Rattle.std.specs.Prelude.{ℕ, ◌≡◌, ◌≢◌, ◌≤◌, ◌<◌, ◌+◌, List, length, slice_index}
use Rattle.gic_model.specs.declared.parts.Element.{Element}
use Rattle.gic_net.specs.Row.{item_number_at}

-- the first place from this one on whose element is of the item with this number, or the number of elements
pub record IsNextOf (list : List Element) (number from place : ℕ) : Type 0 where
  pub not_before : from ≤ place
  pub inside : place ≤ length list
  pub none_between : (p : ℕ) → from ≤ p → p < place → item_number_at list p ≢ number
  pub is_of_item : place < length list → item_number_at list place ≡ number

-- the first place of each number, and the next place after each element
pub record IsItemIndex (list : List Element) (first next : List ℕ) : Type 0 where
  pub numbers : (p : ℕ) → p < length list → item_number_at list p < length first
  pub firsts : (n : ℕ) → n < length first → IsNextOf list n 0 (slice_index first n)
  pub next_count : length next ≡ length list
  pub nexts : (p : ℕ) → p < length list → IsNextOf list (item_number_at list p) (p + 1) (slice_index next p)
