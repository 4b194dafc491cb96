-- The rows of all nodes, and how they change.
use Rattle.std.specs.Prelude.{ℕ, ◌≡◌, ◌<◌, ◌⊎◌, Bool, false, List, [], ◌∷◌, ◌++◌, length, map, slice_index_or, if◌then◌else◌}
use Rattle.std.specs.List.{filter, enumerate_from}
use Rattle.gic_model.specs.declared.parts.Element.{Element}
use Rattle.gic_model.specs.Network.{Network, ends_at}
use Rattle.gic_model.specs.Limits.{IsWithinLimits}
use Rattle.gic_net.specs.Net.{no_element}
use Rattle.gic_net.specs.Row.{NodeRow, full_row, item_number_at, stands_by, gathered}
use Rattle.gic_net.specs.ItemIndex.{IsItemIndex}

-- the row of the node k
abbrev pub node_row_at : List NodeRow → ℕ → NodeRow
node_row_at rows k = slice_index_or rows k (full_row [])

-- the places of the elements that end at the node k, where the first element has this place
abbrev pub places_from : ℕ → List Element → ℕ → List ℕ
places_from place list k = map (λ p. p.0) (filter (λ p. ends_at p.1 k) (enumerate_from place list))

-- in each row all elements stand
abbrev pub AreFull : List NodeRow → Type 0
AreFull rows = (k : ℕ) → k < length rows → (node_row_at rows k).standing ≡ (node_row_at rows k).all

-- the rows of this many nodes, in which all elements stand
pub record AreFullRows (nodes : ℕ) (list : List Element) (rows : List NodeRow) : Type 0 where
  pub count : length rows ≡ nodes
  pub each : (k : ℕ) → k < nodes → node_row_at rows k ≡ full_row (places_from 0 list k)

-- a place was added to the rows at the ends of this element
pub record ArePushedAt (element : Element) (place : ℕ) (old new : List NodeRow) : Type 0 where
  pub count : length new ≡ length old
  pub each : (k : ℕ) → k < length old →
      node_row_at new k ≡ (if ends_at element k then full_row ((node_row_at old k).all ++ place ∷ []) else node_row_at old k)

-- the rows at the ends of this element were gathered by the marks
pub record AreGatheredAt (list : List Element) (opened : List Bool) (element : Element) (old new : List NodeRow) : Type 0 where
  pub count : length new ≡ length old
  pub each : (k : ℕ) → k < length old → node_row_at new k ≡ (if ends_at element k then gathered list opened (node_row_at old k) else node_row_at old k)

-- no element before this place is of the item with this number and ends at the node k
abbrev pub NoneEndsAt : List Element → ℕ → ℕ → ℕ → Type 0
NoneEndsAt list number before k = (p : ℕ) → p < before → item_number_at list p ≡ number → ends_at (slice_index_or list p no_element) k ≡ false

-- each row was gathered by the marks, or is as it was and none of the item's elements before this place ends there
pub record AreGatheredFor (list : List Element) (opened : List Bool) (number before : ℕ) (old new : List NodeRow) : Type 0 where
  pub count : length new ≡ length old
  pub each : (k : ℕ) → k < length old →
      (node_row_at new k ≡ gathered list opened (node_row_at old k)) ⊎ ((node_row_at new k ≡ node_row_at old k) × NoneEndsAt list number before k)

-- what a net keeps: the index of its items, for each number of an item a mark that says whether that item is open, and for each node its elements with the standing ones gathered by the marks
pub record IsStored (network : Network) (opened : List Bool) (first next : List ℕ) (rows : List NodeRow) : Type 0 where
  pub limits : IsWithinLimits network
  pub index : IsItemIndex network.list first next
  pub mark_count : length opened ≡ length first
  pub row_count : length rows ≡ network.nodes
  pub each_row : (k : ℕ) → k < network.nodes →
      node_row_at rows k ≡ record { all = places_from 0 network.list k; standing = filter (stands_by network.list opened) (places_from 0 network.list k) }
