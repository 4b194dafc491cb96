-- What a cap lets entries be.
use Rattle.std.specs.Prelude.{ℕ, ◌≡◌, List, length, slice_index}
use Rattle.gic_base.specs.declared.limits.TheConstants.{FULL_WALK}
use Rattle.gic_model.specs.Sums.{Placed}
use Rattle.gic_net.specs.Net.{NetView, standing}
use Rattle.gic_bound.specs.Shares.{entries_where_live}
use Rattle.gic_bound.specs.Starting.{IsNotAbove}
use Rattle.gic_bound.specs.declared.cap.Cap.{Cap}
use Rattle.gic_bound.specs.declared.cap.Cap.TheVariants.{Full, Entries}

-- the greatest entry at a node
abbrev pub cap_entry : List Placed → Cap → ℕ → ℕ
cap_entry standing Full = entries_where_live standing (λ k. FULL_WALK)
cap_entry standing (Entries vector) = slice_index vector.now

-- the cap's vector, where it has one, has an entry for each of this many nodes
abbrev pub IsCapFor : ℕ → Cap → Type 0
IsCapFor nodes Full = Unit
IsCapFor nodes (Entries vector) = length vector.now ≡ nodes

-- the vector has an entry for each node of the net, and no entry is above the cap, which is for as many nodes
pub record IsUnderCap (net : NetView) (cap : Cap) (vector : List ℕ) : Type 0 where
  pub cap_for : IsCapFor net.network.nodes cap
  pub count : length vector ≡ net.network.nodes
  pub below : IsNotAbove (slice_index vector) (cap_entry (standing net) cap)
