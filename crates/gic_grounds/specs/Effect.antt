-- Windings that have no part in an effective current.
use Rattle.std.specs.Prelude.{ℕ, ◌≡◌, List, IsTrue}
use Rattle.gic_base.specs.declared.id.ElementId.{ElementId}
use Rattle.gic_model.specs.Standing.{is_standing}
use Rattle.gic_model.specs.Sums.{Placed}

-- the winding has no weight where it stands
abbrev pub HasNoPart : List Placed → ElementId × ℕ → Type 0
HasNoPart standing winding = IsTrue (is_standing standing winding.0.0) → winding.1 ≡ 0
