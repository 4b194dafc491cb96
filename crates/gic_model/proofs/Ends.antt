-- The ends of standing elements: they are live nodes of the network, or earth.
use Rattle.std.proofs.Common.{◌≡◌, ℕ, ◌<◌, ◌≤◌, Bool, true, false, cond, ◌||◌, ◌==◌, List, arith, refl, ap, ◌∙◌, inl, inr, ⊎_elim, eqb-true, eq-eqb}
use Rattle.std.proofs.Math.Bool.{or-true}
use Rattle.std.specs.List.{AllByRecursion, enumerate_from}
use Rattle.gic_model.specs.declared.parts.End.{End}
use Rattle.gic_model.specs.declared.parts.End.TheVariants.{Node, Earth}
use Rattle.gic_model.specs.declared.parts.Item.{Item}
use Rattle.gic_model.specs.declared.parts.Element.{Element}
use Rattle.gic_model.specs.Network.{Network, is_node, ends_at}
use Rattle.gic_model.specs.Limits.{IsWithinLimits, IsElementWithin, IsEndWithin}
use Rattle.gic_model.specs.Standing.{standing_elements, is_live, IsLive, elements_at, other_end}
use Rattle.gic_model.specs.Sums.{Placed}
use Rattle.gic_model.proofs.Members.{or_cases, kept, placed, any_of_each, by_any, for_each}
use Rattle.gic_model.proofs.SumLaws.{HasOhms}

-- an element of a network that ends at k: k is one of the nodes
node_within : (nodes k : ℕ) (t : End) → IsEndWithin nodes t → is_node t k ≡ true → k < nodes
node_within nodes k (Node m) h is = let same = eqb-true m.0 k is in omega arith
node_within nodes k Earth h is = absurd (no_way is)
  where
    no_way : false ≡ true → ⊥
    no_way e = cc

end_within : (nodes k : ℕ) (e : Element) → IsElementWithin nodes e → ends_at e k ≡ true → k < nodes
end_within nodes k e h ends = ⊎_elim (λ is. let same = eqb-true e.from.0 k is in let within = h.from_node in omega arith) (λ is. node_within nodes k e.to h.to_end is) (or_cases (e.from.0 == k) (is_node e.to k) ends)

-- a live node is one of the nodes
pub live_within : (nodes : ℕ) (standing : List Placed) (k : ℕ) → AllByRecursion (λ p. IsElementWithin nodes p.1) standing → IsLive standing k → k < nodes
live_within nodes standing k within live =
    by_any (λ p. ends_at p.1 k) (λ p. IsElementWithin nodes p.1) (λ p test h. end_within nodes k p.1 h test) standing within live

-- an end that is a live node, or earth
abbrev pub IsLiveEnd : (ℕ → Bool) → End → Type 0
IsLiveEnd live (Node m) = live m.0 ≡ true
IsLiveEnd live Earth = Unit {0}

-- an element ends at its own ends
pub end_own : (e : Element) (t : End) → e.to ≡ t → (live : ℕ → Bool) → ((m : ℕ) → ends_at e m ≡ true → live m ≡ true) → IsLiveEnd live t
end_own e Earth is live leads = tt
end_own e (Node m) is live leads =
    let at_to : is_node e.to m.0 ≡ true = ap (λ z. is_node z m.0) is ∙ eq-eqb m.0 m.0 refl in
    leads m.0 (ap (λ z. (e.from.0 == m.0) || z) at_to ∙ or-true (e.from.0 == m.0))

pub from_own : (e : Element) (live : ℕ → Bool) → ((m : ℕ) → ends_at e m ≡ true → live m ≡ true) → live e.from.0 ≡ true
from_own e live leads = leads e.from.0 (ap (λ z. z || is_node e.to e.from.0) (eq-eqb e.from.0 e.from.0 refl))

other_live : (k : ℕ) (e : Element) (live : ℕ → Bool) → ((m : ℕ) → ends_at e m ≡ true → live m ≡ true) → IsLiveEnd live (other_end k e)
other_live k e live leads = by (e.from.0 == k)
  where
    by : (b : Bool) → IsLiveEnd live (cond b e.to (Node e.from))
    by true = end_own e e.to refl live leads
    by false = from_own e live leads

-- each node at which a standing element ends is live
pub ends_live : (standing : List Placed) → AllByRecursion (λ p. (m : ℕ) → ends_at p.1 m ≡ true → is_live standing m ≡ true) standing
ends_live standing = for_each (λ m p. ends_at p.1 m ≡ true → is_live standing m ≡ true) standing (λ m. any_of_each (λ p. ends_at p.1 m) standing)

-- the other ends of the standing elements at a node are live, or earth
pub others_live : (standing : List Placed) (k : ℕ) → AllByRecursion (λ p. IsLiveEnd (is_live standing) (other_end k p.1)) (elements_at standing k)
others_live standing k =
    kept (λ p. ends_at p.1 k) (λ p. (m : ℕ) → ends_at p.1 m ≡ true → is_live standing m ≡ true) (λ p. IsLiveEnd (is_live standing) (other_end k p.1))
    (λ p is leads. other_live k p.1 (is_live standing) leads) standing
    (ends_live standing)

-- the standing elements of a network within the limits are within them
pub standing_within : (network : Network) (stands : Item → Bool) → IsWithinLimits network → AllByRecursion (λ p. IsElementWithin network.nodes p.1) (standing_elements network stands)
standing_within network stands limits =
    kept (λ p. stands p.1.item) (λ p. IsElementWithin network.nodes p.1) (λ p. IsElementWithin network.nodes p.1) (λ p is h. h) (enumerate_from 0 network.list)
    (placed (IsElementWithin network.nodes) 0 network.list limits.each_element)

-- the elements at a node of such a network are within its limits
pub within_at : (nodes : ℕ) (standing : List Placed) (k : ℕ) → AllByRecursion (λ p. IsElementWithin nodes p.1) standing → AllByRecursion (λ p. IsElementWithin nodes p.1) (elements_at standing k)
within_at nodes standing k within = kept (λ p. ends_at p.1 k) (λ p. IsElementWithin nodes p.1) (λ p. IsElementWithin nodes p.1) (λ p is h. h) standing within

-- and have resistances above 0
pub ohms_at_node : (nodes : ℕ) (standing : List Placed) (k : ℕ) → AllByRecursion (λ p. IsElementWithin nodes p.1) standing → AllByRecursion HasOhms (elements_at standing k)
ohms_at_node nodes standing k within = kept (λ p. ends_at p.1 k) (λ p. IsElementWithin nodes p.1) HasOhms (λ p is h. let least = h.least_ohm in omega arith) standing within

-- some parallel path is there
pub some_times : (nodes : ℕ) (p : Placed) → IsElementWithin nodes p.1 → 1 ≤ p.1.times
some_times nodes p h = elim h.one_or_three [ inl one ↦ omega arith | inr three ↦ omega arith ]
