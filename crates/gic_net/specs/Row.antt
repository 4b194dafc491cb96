-- What a node's row is seen as.
use Rattle.std.specs.Prelude.{ℕ, ◌<◌, Bool, false, not, List, length, slice_index_or}
use Rattle.std.specs.List.{filter, All}
use Rattle.gic_model.specs.declared.parts.Element.{Element}
use Rattle.gic_model.specs.Standing.{item_number}
use Rattle.gic_net.specs.Net.{no_element}

-- the places of all elements that end at the node, and of the standing ones among them, in their order
pub record NodeRow : Type 0 where
  pub all : List ℕ
  pub standing : List ℕ

-- a row whose elements all stand
abbrev pub full_row : List ℕ → NodeRow
full_row places = record { all = places; standing = places }

-- the number of the item of the element at this place
abbrev pub item_number_at : List Element → ℕ → ℕ
item_number_at list place = item_number (slice_index_or list place no_element).item

-- whether the element at this place stands, by marks for the open items
abbrev pub stands_by : List Element → List Bool → ℕ → Bool
stands_by list opened place = not (slice_index_or opened (item_number_at list place) false)

-- these are places of elements, and there is a mark for the item of each
abbrev pub AreMarked : List Element → List Bool → List ℕ → Type 0
AreMarked list opened places = All (λ place. (place < length list) × (item_number_at list place < length opened)) places

-- the row with the standing elements gathered by the marks
abbrev pub gathered : List Element → List Bool → NodeRow → NodeRow
gathered list opened row = record row { standing = filter (stands_by list opened) row.all }
