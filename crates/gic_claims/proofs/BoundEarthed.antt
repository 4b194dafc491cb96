-- A bound vector leads each live node to earth, by nodes with ever smaller entries.
use Rattle.std.proofs.Common.{◌≡◌, ◌⊎◌, ℕ, zero, suc, ◌*◌, ◌^◌, ◌<◌, Bool, true, false, cond, ◌&&◌, ◌||◌, ◌==◌, List, [], ◌∷◌, length, ℤ, pos, ◌-ℤ◌, ◌*ℤ◌, ◌≤ℤ◌, arith, refl, ap, sym, ◌∙◌, inl, inr, eq-eqb}
use lib.IntN.{*ℤ-zero}
use Rattle.std.specs.List.{AllByRecursion}
use Rattle.std.proofs.lemmas.Bool.{or_left, or_right, and_from}
use Rattle.std.proofs.lemmas.Int.{by_lt_z}
use Rattle.gic_fixed.proofs.Divisions.{floor_below}
use Rattle.gic_fixed.proofs.Integers.{linear, *ℤ-≤ℤ, ≤ℤ-from_*ℤ}
use Rattle.gic_model.specs.declared.parts.End.{End}
use Rattle.gic_model.specs.declared.parts.End.TheVariants.{Node, Earth}
use Rattle.gic_model.specs.declared.parts.Element.{Element}
use Rattle.gic_model.specs.Bound.{row_part, MeetsRowRule, IsBoundVector}
use Rattle.gic_model.specs.Earthing.{is_earth, joins, IsJoined, LeadsToEarth, IsEarthed}
use Rattle.gic_model.specs.Limits.{IsElementWithin}
use Rattle.gic_model.specs.Network.{is_node, ends_at}
use Rattle.gic_model.specs.Standing.{is_live, IsLive, elements_at, other_end, value_at}
use Rattle.gic_model.specs.Sums.{Placed, sum_of}
use Rattle.gic_model.proofs.Ends.{some_times}
use Rattle.gic_model.proofs.Members.{by_any, any_of_each, both, for_each, kept, some_kept}
use Rattle.gic_model.proofs.Row.{signed}
use Rattle.gic_model.proofs.Agreement.{joins_end}

no_way : false ≡ true → ⊥
no_way e = cc

-- a sum above 0 has a term that isn't below 0
some_of_positive : {X : Type 0} (f : X → ℤ) (P : X → Type 0) {C : Type 0} → ((x : X) → P x → pos 0 ≤ℤ f x → C) → (xs : List X) → AllByRecursion P xs → pos 1 ≤ℤ sum_of f xs → C
some_of_positive f P leads [] h sum = absurd (omega (arith, linear))
some_of_positive f P leads (x ∷ xs) h sum =
    by_lt_z (f x) (pos 0) (λ below. some_of_positive f P leads xs h.1 (omega (arith, linear))) (λ here. leads x h.0 here)

-- and so has a sum that isn't below 0, where it has a term at all
some_of : {X : Type 0} (f : X → ℤ) (P : X → Type 0) {C : Type 0} → ((x : X) → P x → pos 0 ≤ℤ f x → C) → (xs : List X) → AllByRecursion P xs → 0 < length xs → pos 0 ≤ℤ sum_of f xs → C
some_of f P leads [] h many sum = absurd (omega (arith, many))
some_of f P leads (x ∷ xs) h many sum =
    by_lt_z (f x) (pos 0) (λ below. some_of_positive f P leads xs h.1 (omega (arith, linear))) (λ here. leads x h.0 here)

-- the node k leads to earth, or is joined to a node with a smaller entry
abbrev HasWayDown : List Placed → (ℕ → ℕ) → ℕ → Type 0
HasWayDown standing v k = LeadsToEarth standing k ⊎ ((m : ℕ) × (IsJoined standing k m × (v m < v k)))

-- an element whose part isn't below 0 falls by 1 at least
falls : (nodes : ℕ) (v : ℕ → ℕ) (k : ℕ) (p : Placed) → IsElementWithin nodes p.1 → pos 0 ≤ℤ row_part v k p → pos 1 ≤ℤ (pos (v k) -ℤ value_at (signed v) (other_end k p.1))
falls nodes v k p within part =
    let slack = pos (v k) -ℤ value_at (signed v) (other_end k p.1) -ℤ pos 1 in
    let c = p.1.times * 1000000 * 2 ^ 20 in
    let least = within.least_ohm in
    let some = some_times nodes p within in
    let rounded = floor_below (pos c *ℤ slack) p.1.micro_ohm (omega arith) in
    let order = *ℤ-≤ℤ p.1.micro_ohm (pos 0) (row_part v k p) part in
    let none = *ℤ-zero (pos p.1.micro_ohm) in
    let nothing = *ℤ-zero (pos c) in
    let scaled : (pos c *ℤ pos 0) ≤ℤ (pos c *ℤ slack) = omega (arith, linear) in
    let above : pos 0 ≤ℤ slack = ≤ℤ-from_*ℤ c (pos 0) slack (omega arith) scaled in
    omega (arith, linear)

-- and shows the way
way_over : (standing : List Placed) (v : ℕ → ℕ) (k : ℕ) (e : Element) → ends_at e k ≡ true
    → (((e.from.0 == k) && is_earth e.to) ≡ true → LeadsToEarth standing k) → ((m : ℕ) → joins k m e ≡ true → IsJoined standing k m)
    → pos 1 ≤ℤ (pos (v k) -ℤ value_at (signed v) (other_end k e)) → HasWayDown standing v k
way_over standing v k e ends leads joined fall = by (e.from.0 == k) refl fall
  where
    at_to : (e.from.0 == k) ≡ true → (t : End) → e.to ≡ t → pos 1 ≤ℤ (pos (v k) -ℤ value_at (signed v) t) → HasWayDown standing v k
    at_to at_from Earth is less = inl (leads (and_from (e.from.0 == k) (is_earth e.to) at_from (ap is_earth is)))
    at_to at_from (Node m) is less =
        let here : is_node e.to m.0 ≡ true = ap (λ t. is_node t m.0) is ∙ eq-eqb m.0 m.0 refl in
        inr (m.0, (joined m.0 (or_left ((e.from.0 == k) && is_node e.to m.0) ((e.from.0 == m.0) && is_node e.to k) (and_from (e.from.0 == k) (is_node e.to m.0) at_from here)), omega (arith, linear)))

    by : (b : Bool) → (e.from.0 == k) ≡ b → pos 1 ≤ℤ (pos (v k) -ℤ value_at (signed v) (cond b e.to (Node e.from))) → HasWayDown standing v k
    by true is less = at_to is e.to refl less
    by false is less =
        let here : is_node e.to k ≡ true = sym (ap (λ b. b || is_node e.to k) is) ∙ ends in
        inr (e.from.0, (joined e.from.0 (or_right ((e.from.0 == k) && is_node e.to e.from.0) ((e.from.0 == e.from.0) && is_node e.to k) (and_from (e.from.0 == e.from.0) (is_node e.to k) (eq-eqb e.from.0 e.from.0 refl) here)), omega (arith, linear)))

-- what is known of a standing element at k
abbrev ShowsWay : ℕ → List Placed → ℕ → Placed → Type 0
ShowsWay nodes standing k p = IsElementWithin nodes p.1 × ((((p.1.from.0 == k) && is_earth p.1.to) ≡ true → LeadsToEarth standing k) × ((m : ℕ) → joins k m p.1 ≡ true → IsJoined standing k m))

each_shows : (nodes : ℕ) (standing : List Placed) (k : ℕ) → AllByRecursion (λ p. IsElementWithin nodes p.1) standing → AllByRecursion (ShowsWay nodes standing k) standing
each_shows nodes standing k within =
    both _ _ standing within
    (both _ _ standing (any_of_each (λ p. (p.1.from.0 == k) && is_earth p.1.to) standing)
    (for_each (λ m p. joins k m p.1 ≡ true → IsJoined standing k m) standing (λ m. any_of_each (λ p. joins k m p.1) standing)))

-- each live node has a way down
way_down : (nodes : ℕ) (standing : List Placed) (v : ℕ → ℕ) (k : ℕ) → AllByRecursion (λ p. IsElementWithin nodes p.1) standing → IsLive standing k → MeetsRowRule standing v k
    → HasWayDown standing v k
way_down nodes standing v k within live row =
    some_of (row_part v k) (λ p. (ends_at p.1 k ≡ true) × ShowsWay nodes standing k p)
    (λ p have part. way_over standing v k p.1 have.0 have.1.1.0 have.1.1.1 (falls nodes v k p have.1.0 part))
    (elements_at standing k)
    (kept (λ p. ends_at p.1 k) (ShowsWay nodes standing k) (λ p. (ends_at p.1 k ≡ true) × ShowsWay nodes standing k p) (λ p is h. (is, h)) standing (each_shows nodes standing k within))
    (some_kept (λ p. ends_at p.1 k) standing live) row

-- so the node that k is joined to is live
joined_live : (standing : List Placed) (k m : ℕ) → IsJoined standing k m → IsLive standing m
joined_live standing k m joined =
    by_any (λ p. joins k m p.1) (λ p. ends_at p.1 m ≡ true → is_live standing m ≡ true) (λ p is have. have (joins_end k m p.1 is)) standing
    (any_of_each (λ p. ends_at p.1 m) standing) joined

-- down to earth, by the size of the entry
earthed_below : (nodes : ℕ) (standing : List Placed) (v : ℕ → ℕ) → AllByRecursion (λ p. IsElementWithin nodes p.1) standing → ((k : ℕ) → IsLive standing k → MeetsRowRule standing v k)
    → (n k : ℕ) → IsLive standing k → v k < n → IsEarthed standing k
earthed_below nodes standing v within rows zero k live less = absurd (omega (arith, less))
earthed_below nodes standing v within rows (suc n) k live less = elim (way_down nodes standing v k within live (rows k live)) [
  | inl leads ↦ record { live = live; over = []; chain = leads }
  | inr next ↦
      let rest = earthed_below nodes standing v within rows n next.0 (joined_live standing k next.0 next.1.0) (omega (arith, less, next.1.1)) in
      record { live = live; over = next.0 ∷ rest.over; chain = (next.1.0, rest.chain) }
]

-- each live node is earthed where a bound vector is
pub bound_earthed : (nodes : ℕ) (standing : List Placed) (v : ℕ → ℕ) → AllByRecursion (λ p. IsElementWithin nodes p.1) standing → IsBoundVector standing v
    → (k : ℕ) → IsLive standing k → IsEarthed standing k
bound_earthed nodes standing v within vector k live = earthed_below nodes standing v within vector.rows (suc (v k)) k live (omega arith)
