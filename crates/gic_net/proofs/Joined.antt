-- Nodes that standing elements join to each other and to earth.
use Rattle.std.proofs.Common.{◌≡◌, ◌⊎◌, ℕ, ◌<◌, Bool, true, false, cond, ◌&&◌, ◌==◌, List, [], ◌∷◌, length, refl, ap, sym, ◌∙◌, subst, inl, inr, eqb-true, eq-eqb}
use Rattle.std.proofs.lemmas.Bool.{or_cases, or_left, or_right, and_from}
use Rattle.std.proofs.lemmas.List.Folds.{list_any_at}
use Rattle.std.proofs.lemmas.List.Elements.{All-from_get_or, recursion_from_All}
use Rattle.gic_base.specs.declared.id.NodeId.{NodeId}
use Rattle.gic_model.specs.declared.parts.End.{End}
use Rattle.gic_model.specs.declared.parts.End.TheVariants.{Node, Earth}
use Rattle.gic_model.specs.declared.parts.Element.{Element}
use Rattle.gic_model.specs.Network.{is_node, ends_at}
use Rattle.gic_model.specs.Standing.{other_end}
use Rattle.gic_model.specs.Earthing.{is_earth, joins, IsJoined, LeadsToEarth, IsEarthed}
use Rattle.gic_model.specs.Sums.{Placed}
use Rattle.gic_model.proofs.Members.{by_any, and_first, and_second}
use Rattle.gic_net.specs.Net.{NetView, standing, no_element, row_at, placed_at}
use Rattle.gic_net.specs.Scratch.{IsReached}
use Rattle.gic_net.specs.Spread.{IsReachedEnd}
use Rattle.gic_net.proofs.Members.{any_of_kept, any_kept, any_weaker}

no_way : false ≡ true → ⊥
no_way e = cc

-- an element joins the nodes either way
joins_turned : (k m : ℕ) (e : Element) → joins k m e ≡ true → joins m k e ≡ true
joins_turned k m e h = elim (or_cases ((e.from.0 == k) && is_node e.to m) ((e.from.0 == m) && is_node e.to k) h) [
  | inl one ↦ or_right ((e.from.0 == m) && is_node e.to k) ((e.from.0 == k) && is_node e.to m) one
  | inr other ↦ or_left ((e.from.0 == m) && is_node e.to k) ((e.from.0 == k) && is_node e.to m) other
]

pub joined_turned : (all : List Placed) (k m : ℕ) → IsJoined all k m → IsJoined all m k
joined_turned all k m h = any_weaker (λ p. joins k m p.1) (λ p. joins m k p.1) (λ p is. joins_turned k m p.1 is) all h

-- and ends at both
joins_ends : (k m : ℕ) (e : Element) → joins k m e ≡ true → ends_at e k ≡ true
joins_ends k m e h = elim (or_cases ((e.from.0 == k) && is_node e.to m) ((e.from.0 == m) && is_node e.to k) h) [
  | inl one ↦ or_left (e.from.0 == k) (is_node e.to k) (and_first (e.from.0 == k) (is_node e.to m) one)
  | inr other ↦ or_right (e.from.0 == k) (is_node e.to k) (and_second (e.from.0 == m) (is_node e.to k) other)
]

leads_ends : (k : ℕ) (e : Element) → ((e.from.0 == k) && is_earth e.to) ≡ true → ends_at e k ≡ true
leads_ends k e h = or_left (e.from.0 == k) (is_node e.to k) (and_first (e.from.0 == k) (is_earth e.to) h)

-- chains
pub earthed_itself : (all : List Placed) (k : ℕ) → LeadsToEarth all k → IsEarthed all k
earthed_itself all k h = record {
  live = any_weaker (λ p. (p.1.from.0 == k) && is_earth p.1.to) (λ p. ends_at p.1 k) (λ p is. leads_ends k p.1 is) all h;
  over = [];
  chain = h;
}

pub earthed_next : (all : List Placed) (k m : ℕ) → IsEarthed all k → IsJoined all k m → IsEarthed all m
earthed_next all k m h joined = record {
  live = any_weaker (λ p. joins m k p.1) (λ p. ends_at p.1 m) (λ p is. joins_ends m k p.1 is) all (joined_turned all k m joined);
  over = k ∷ h.over;
  chain = (joined_turned all k m joined, h.chain);
}

-- an element that ends at a node and at earth leads from the one to the other
earth_from : (e : Element) (k : ℕ) → is_earth e.to ≡ true → ends_at e k ≡ true → (e.from.0 == k) ≡ true
earth_from e k earth ends = by e.to earth (or_cases (e.from.0 == k) (is_node e.to k) ends)
  where
    by : (t : End) → is_earth t ≡ true → ((e.from.0 == k) ≡ true) ⊎ (is_node t k ≡ true) → (e.from.0 == k) ≡ true
    by t is (inl from) = from
    by (Node m) is (inr to) = absurd (no_way is)
    by Earth is (inr to) = absurd (no_way to)

module _ (net : NetView) (k : ℕ) where
  pub leads_at : (j : ℕ) → j < length (row_at net k) → is_earth (placed_at net k j).1.to ≡ true → ends_at (placed_at net k j).1 k ≡ true → LeadsToEarth (standing net) k
  leads_at j h earth ends =
      any_of_kept (λ (p : Placed). (p.1.from.0 == k) && is_earth p.1.to) (λ p. ends_at p.1 k) (standing net)
      (list_any_at (λ (p : Placed). (p.1.from.0 == k) && is_earth p.1.to) (row_at net k) j (0, no_element) h
      (and_from ((placed_at net k j).1.from.0 == k) (is_earth (placed_at net k j).1.to) (earth_from (placed_at net k j).1 k earth ends) earth))

  pub leads_not : ((j : ℕ) → j < length (row_at net k) → is_earth (placed_at net k j).1.to ≡ false) → LeadsToEarth (standing net) k → ⊥
  leads_not none leads =
      by_any (λ (p : Placed). (p.1.from.0 == k) && is_earth p.1.to) (λ p. is_earth p.1.to ≡ false)
      (λ p test is. no_way (sym is ∙ and_second (p.1.from.0 == k) (is_earth p.1.to) test)) (row_at net k)
      (recursion_from_All (λ p. is_earth p.1.to ≡ false) (row_at net k) (All-from_get_or (λ p. is_earth p.1.to ≡ false) (row_at net k) (0, no_element) none))
      (any_kept (λ (p : Placed). (p.1.from.0 == k) && is_earth p.1.to) (λ p. ends_at p.1 k) (λ p is. leads_ends k p.1 is) (standing net) leads)

-- the other end of an element that ends at k is joined to k
joins_other : (e : Element) (k : ℕ) (m : NodeId) → ends_at e k ≡ true → other_end k e ≡ Node m → joins k m.0 e ≡ true
joins_other e k m ends is = by (e.from.0 == k) refl is
  where
    by : (b : Bool) → (e.from.0 == k) ≡ b → cond b e.to (Node e.from) ≡ Node m → joins k m.0 e ≡ true
    by true from same =
        or_left ((e.from.0 == k) && is_node e.to m.0) ((e.from.0 == m.0) && is_node e.to k)
        (and_from (e.from.0 == k) (is_node e.to m.0) from (ap (λ t. is_node t m.0) same ∙ eq-eqb m.0 m.0 refl))
    by false from same =
        let one : e.from ≡ m = cc in
        or_right ((e.from.0 == k) && is_node e.to m.0) ((e.from.0 == m.0) && is_node e.to k)
        (and_from (e.from.0 == m.0) (is_node e.to k) (eq-eqb e.from.0 m.0 (ap (λ (n : NodeId). n.0) one)) (elim (or_cases (e.from.0 == k) (is_node e.to k) ends) [
          | inl at_from ↦ absurd (no_way (sym from ∙ at_from))
          | inr at_to ↦ at_to
        ]))

other_joins : (e : Element) (k m : ℕ) → joins k m e ≡ true → is_node (other_end k e) m ≡ true
other_joins e k m h = by (e.from.0 == k) refl (or_cases ((e.from.0 == k) && is_node e.to m) ((e.from.0 == m) && is_node e.to k) h)
  where
    by : (b : Bool) → (e.from.0 == k) ≡ b → (((e.from.0 == k) && is_node e.to m) ≡ true) ⊎ (((e.from.0 == m) && is_node e.to k) ≡ true) → is_node (cond b e.to (Node e.from)) m ≡ true
    by true from (inl one) = and_second (e.from.0 == k) (is_node e.to m) one
    by true from (inr other) =
        let same : k ≡ m = sym (eqb-true e.from.0 k from) ∙ eqb-true e.from.0 m (and_first (e.from.0 == m) (is_node e.to k) other) in
        ap (is_node e.to) (sym same) ∙ and_second (e.from.0 == m) (is_node e.to k) other
    by false from (inl one) = absurd (no_way (sym from ∙ and_first (e.from.0 == k) (is_node e.to m) one))
    by false from (inr other) = and_first (e.from.0 == m) (is_node e.to k) other

reached_end : (reached : List ℕ) (t : End) (m : ℕ) → is_node t m ≡ true → IsReachedEnd reached t → IsReached reached m
reached_end reached (Node n) m is h = subst (IsReached reached) (eqb-true n.0 m is) h
reached_end reached Earth m is h = absurd (no_way is)

module _ (net : NetView) (k : ℕ) where
  pub joined_at : (j : ℕ) (m : NodeId) → j < length (row_at net k) → ends_at (placed_at net k j).1 k ≡ true → other_end k (placed_at net k j).1 ≡ Node m → IsJoined (standing net) k m.0
  joined_at j m h ends is =
      any_of_kept (λ (p : Placed). joins k m.0 p.1) (λ p. ends_at p.1 k) (standing net)
      (list_any_at (λ (p : Placed). joins k m.0 p.1) (row_at net k) j (0, no_element) h (joins_other (placed_at net k j).1 k m ends is))

  pub joined_reached : (reached : List ℕ) → ((j : ℕ) → j < length (row_at net k) → IsReachedEnd reached (other_end k (placed_at net k j).1)) → (m : ℕ) → IsJoined (standing net) k m → IsReached reached m
  joined_reached reached each m joined =
      by_any (λ (p : Placed). joins k m p.1) (λ p. IsReachedEnd reached (other_end k p.1)) (λ p test h. reached_end reached (other_end k p.1) m (other_joins p.1 k m test) h) (row_at net k)
      (recursion_from_All (λ p. IsReachedEnd reached (other_end k p.1)) (row_at net k) (All-from_get_or (λ p. IsReachedEnd reached (other_end k p.1)) (row_at net k) (0, no_element) each))
      (any_kept (λ (p : Placed). joins k m p.1) (λ p. ends_at p.1 k) (λ p is. joins_ends k m p.1 is) (standing net) joined)
