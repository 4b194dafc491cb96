-- What one more node, or one more element at a node, changes.
use Rattle.std.proofs.Common.{◌≡◌, ◌⊎◌, ℕ, ◌+◌, ◌<◌, true, List, ◌++◌, length, arith, ap, sym, ◌∙◌, subst, append_assoc, inl, inr}
use Rattle.std.proofs.lemmas.Bool.{cases_eq}
use Rattle.gic_base.specs.declared.id.NodeId.{NodeId}
use Rattle.gic_model.specs.declared.parts.End.{End}
use Rattle.gic_model.specs.declared.parts.End.TheVariants.{Node, Earth}
use Rattle.gic_model.specs.Network.{ends_at}
use Rattle.gic_model.specs.Limits.{IsWithinLimits}
use Rattle.gic_model.specs.Standing.{other_end, IsLive}
use Rattle.gic_model.specs.Earthing.{IsJoined, LeadsToEarth, IsEarthed}
use Rattle.gic_model.specs.Sums.{Placed}
use Rattle.gic_model.proofs.Ends.{standing_within, live_within}
use Rattle.gic_net.specs.Net.{NetView, stands, standing, row_at, placed_at}
use Rattle.gic_net.specs.Scratch.{IsReached, with_node}
use Rattle.gic_net.specs.Spread.{IsReachedEnd}
use Rattle.gic_net.proofs.Members.{with_more, with_kept, with_itself, with_only, with_end}
use Rattle.gic_net.proofs.Joined.{earthed_itself, joined_at}

-- a live node is one of the nodes
pub live_node : (net : NetView) (k : ℕ) → IsWithinLimits net.network → IsLive (standing net) k → k < net.network.nodes
live_node net k limits live = live_within net.network.nodes (standing net) k (standing_within net.network (stands net) limits) live

-- a node was reached because an element leads from it to earth, or none does
abbrev pub FromEarth : List Placed → ℕ → List ℕ → List ℕ → Type 0
FromEarth all node old new = ((new ≡ with_node old node) × LeadsToEarth all node) ⊎ ((new ≡ old) × (LeadsToEarth all node → ⊥))

pub earthed_step : (all : List Placed) (node : ℕ) (old new : List ℕ) → FromEarth all node old new → ((k : ℕ) → IsReached old k → IsEarthed all k) → (k : ℕ) → IsReached new k → IsEarthed all k
earthed_step all node old new (inl step) each k h = elim (with_only old node k (subst (λ (ns : List ℕ). IsReached ns k) step.0 h)) [
  | inl before ↦ each k before
  | inr now ↦ subst (IsEarthed all) now (earthed_itself all node step.1)
]
earthed_step all node old new (inr step) each k h = each k (subst (λ (ns : List ℕ). IsReached ns k) step.0 h)

pub from_earth_step : (all : List Placed) (node : ℕ) (old new : List ℕ) → FromEarth all node old new → ((k : ℕ) → k < node → LeadsToEarth all k → IsReached old k) →
    (k : ℕ) → k < node + 1 → LeadsToEarth all k → IsReached new k
from_earth_step all node old new (inl step) each k h leads =
    subst (λ (ns : List ℕ). IsReached ns k) (sym step.0) (elim (cases_eq k node) [
      | inl e ↦ subst (IsReached (with_node old node)) (sym e) (with_itself old node)
      | inr other ↦ with_kept old node k (each k (omega arith) leads)
    ])
from_earth_step all node old new (inr step) each k h leads =
    subst (λ (ns : List ℕ). IsReached ns k) (sym step.0) (elim (cases_eq k node) [
      | inl e ↦ absurd (step.1 (subst (LeadsToEarth all) e leads))
      | inr other ↦ each k (omega arith) leads
    ])

-- the other end of an element was reached, or is earth
abbrev pub AcrossElement : End → List ℕ → List ℕ → Type 0
AcrossElement other old new = ((m : NodeId) × (other ≡ Node m) × (new ≡ with_node old m.0)) ⊎ ((other ≡ Earth) × (new ≡ old))

module _ (net : NetView) (k place : ℕ) (first old new : List ℕ) (step : AcrossElement (other_end k (placed_at net k place).1) old new) where
  pub more_step : (more : List ℕ) × (old ≡ first ++ more) → (more : List ℕ) × (new ≡ first ++ more)
  more_step h = elim step [
    | inl across ↦ let more = with_more old across.0.0 in (h.0 ++ more.0, across.2 ∙ more.1 ∙ ap (λ ns. ns ++ more.0) h.1 ∙ append_assoc first h.0 more.0)
    | inr none ↦ (h.0, none.1 ∙ h.1)
  ]

  kept_end : (t : End) → IsReachedEnd old t → IsReachedEnd new t
  kept_end t h = elim step [
    | inl across ↦ subst (λ (ns : List ℕ). IsReachedEnd ns t) (sym across.2) (with_end old across.0.0 t h)
    | inr none ↦ subst (λ (ns : List ℕ). IsReachedEnd ns t) (sym none.1) h
  ]

  this_end : IsReachedEnd new (other_end k (placed_at net k place).1)
  this_end = elim step [
    | inl across ↦ subst (IsReachedEnd new) (sym across.1) (subst (λ (ns : List ℕ). IsReached ns across.0.0) (sym across.2) (with_itself old across.0.0))
    | inr none ↦ subst (IsReachedEnd new) (sym none.0) tt
  ]

  pub each_step : ((j : ℕ) → j < place → IsReachedEnd old (other_end k (placed_at net k j).1)) → (j : ℕ) → j < place + 1 → IsReachedEnd new (other_end k (placed_at net k j).1)
  each_step each j h = elim (cases_eq j place) [
    | inl e ↦ subst (λ (i : ℕ). IsReachedEnd new (other_end k (placed_at net k i).1)) (sym e) this_end
    | inr other ↦ kept_end (other_end k (placed_at net k j).1) (each j (omega arith))
  ]

  pub no_other_step : place < length (row_at net k) → ends_at (placed_at net k place).1 k ≡ true → ((m : ℕ) → IsReached old m → IsReached first m ⊎ IsJoined (standing net) k m) →
      (m : ℕ) → IsReached new m → IsReached first m ⊎ IsJoined (standing net) k m
  no_other_step inside ends each m h = elim step [
    | inl across ↦ elim (with_only old across.0.0 m (subst (λ (ns : List ℕ). IsReached ns m) across.2 h)) [
      | inl before ↦ each m before
      | inr now ↦ inr (subst (IsJoined (standing net) k) now (joined_at net k place across.0 inside ends across.1))
    ]
    | inr none ↦ each m (subst (λ (ns : List ℕ). IsReached ns m) none.1 h)
  ]
