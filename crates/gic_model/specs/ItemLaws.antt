-- What the theorems say of items and of switching lists.
use Rattle.std.specs.Prelude.{◌≡◌, not, List, [], ◌∷◌, ◌++◌, IsTrue, ◌↔◌, if◌then◌else◌}
use Rattle.gic_model.specs.declared.parts.Item.{Item}
use Rattle.gic_model.specs.declared.parts.Switching.{Switching}
use Rattle.gic_model.specs.Standing.{is_item, stands_after}

-- two items are one exactly where they are equal
abbrev pub ItemsAreOneWhereEqual : Type 0
ItemsAreOneWhereEqual = (a b : Item) → IsTrue (is_item a b) ↔ (a ≡ b)

-- one more row at the end decides its own item and no other
abbrev pub LastRowDecides : Type 0
LastRowDecides = (rows : List Switching) (row : Switching) (item : Item) →
    stands_after (rows ++ row ∷ []) item ≡ (if is_item row.item item then not row.opens else stands_after rows item)
