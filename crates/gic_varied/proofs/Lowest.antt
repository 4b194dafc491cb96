-- The argument of the lowest node: where a live node lower than earth and than no other has no current towards it, none of its neighbours is higher, and so on along a chain to earth. So no live node is lower than earth.
use Rattle.std.proofs.Common.{◌≡◌, ℕ, zero, suc, ◌*◌, ◌<◌, ◌≤◌, Bool, true, false, cond, ◌&&◌, ◌||◌, ◌==◌, List, [], ◌∷◌, ℤ, pos, negsuc, ◌-ℤ◌, ◌*ℤ◌, neg_ℤ, ◌≤ℤ◌, ◌<ℤ◌, arith, refl, ap, sym, ◌∙◌, ⊎_elim, eqb-true}
use lib.IntN.{*ℤ-zero}
use borrow.Author.Differences.{down}
use Rattle.std.specs.List.{AllByRecursion}
use Rattle.std.proofs.Math.Bool.{or-true}
use Rattle.std.proofs.lemmas.Int.{ints}
use Rattle.gic_base.proofs.Each.{weaker}
use Rattle.gic_model.specs.declared.parts.End.{End}
use Rattle.gic_model.specs.declared.parts.End.TheVariants.{Node, Earth}
use Rattle.gic_model.specs.declared.parts.Element.{Element}
use Rattle.gic_model.specs.Network.{is_node, ends_at}
use Rattle.gic_model.specs.Limits.{IsElementWithin}
use Rattle.gic_model.specs.Standing.{is_live, IsLive, elements_at, value_at, leaving}
use Rattle.gic_model.specs.Earthing.{joins, is_earth, IsChainToEarth, IsEarthed}
use Rattle.gic_model.specs.Sums.{Placed, sum_of}
use Rattle.gic_fixed.proofs.Integers.{linear, nothing_from, *ℤ-≤ℤ, ≤ℤ-from_*ℤ}
use Rattle.gic_model.proofs.Residual.{value-node}
use Rattle.gic_model.proofs.Members.{opened, any_of_each, by_any, or_cases, and_first, and_second}
use Rattle.gic_model.proofs.Ends.{IsLiveEnd, end_own, from_own}
use Rattle.gic_model.proofs.Greatest.{IsGreatestAt, greatest_live}
use Rattle.gic_varied.proofs.Within.{value_earth}

no_way : true ≡ false → ⊥
no_way q = cc

-- a sum that is 0 of terms none of which is above 0 has no term below 0
pub each_nothing : {X : Type 0} (f : X → ℤ) (xs : List X) → AllByRecursion (λ x. f x ≤ℤ pos 0) xs → sum_of f xs ≡ pos 0 → AllByRecursion (λ x. f x ≡ pos 0) xs
each_nothing f [] h is = tt
each_nothing f (x ∷ xs) h is =
    let here = h.0 in
    let rest = none_above f xs h.1 in
    (omega (arith, linear), each_nothing f xs h.1 (omega (arith, linear)))
  where
    none_above : {X : Type 0} (f : X → ℤ) (xs : List X) → AllByRecursion (λ x. f x ≤ℤ pos 0) xs → sum_of f xs ≤ℤ pos 0
    none_above f [] h = omega (arith, linear)
    none_above f (x ∷ xs) h =
        let here = h.0 in
        let rest = none_above f xs h.1 in
        omega (arith, linear)

-- the other end of an element at k has the value of k
pub record IsLevelAt (z : ℕ → ℤ) (k : ℕ) (e : Element) : Type 0 where
  pub from_here : (e.from.0 == k) ≡ true → value_at z e.to ≡ z k
  pub to_here : is_node e.to k ≡ true → z e.from.0 ≡ z k

-- through an element at k nothing leaves k, and where nothing enters it, the other end has its value
pub record IsDownTo (z c : ℕ → ℤ) (k : ℕ) (p : Placed) : Type 0 where
  pub not_above_0 : leaving k p.1 (c p.0) ≤ℤ pos 0
  pub level : leaving k p.1 (c p.0) ≡ pos 0 → IsLevelAt z k p.1

-- k is live and lower than earth, and no live node is lower
pub record IsLowest (standing : List Placed) (z : ℕ → ℤ) (k : ℕ) : Type 0 where
  pub live : IsLive standing k
  pub below_0 : z k <ℤ pos 0
  pub least : (m : ℕ) → IsLive standing m → z k ≤ℤ z m

-- over plain numbers: a current by Ohm's law over a fall that is not above 0, and one over a fall of 0
pub falls : (r w : ℕ) (c a : ℤ) → 0 < r → pos r *ℤ c ≡ pos w *ℤ a → a ≤ℤ pos 0 → c ≤ℤ pos 0
falls r w c a some ohm h =
    let times = *ℤ-≤ℤ w a (pos 0) h in
    let none = *ℤ-zero (pos w) in
    let nothing = *ℤ-zero (pos r) in
    ≤ℤ-from_*ℤ r c (pos 0) some (omega (arith, linear))

pub rises : (r w : ℕ) (c a : ℤ) → 0 < r → pos r *ℤ c ≡ pos w *ℤ a → pos 0 ≤ℤ a → pos 0 ≤ℤ c
rises r w c a some ohm h =
    let times = *ℤ-≤ℤ w (pos 0) a h in
    let none = *ℤ-zero (pos w) in
    let nothing = *ℤ-zero (pos r) in
    ≤ℤ-from_*ℤ r (pos 0) c some (omega (arith, linear))

no_fall : (r w : ℕ) (c a : ℤ) → 0 < w → pos r *ℤ c ≡ pos w *ℤ a → c ≡ pos 0 → a ≡ pos 0
no_fall r w c a some ohm none = nothing_from w a some (sym ohm ∙ ap (λ z. pos r *ℤ z) none ∙ *ℤ-zero (pos r))

-- an element with Ohm's law over z, at the lowest node
pub conductor_down : (standing : List Placed) (z c : ℕ → ℤ) (k : ℕ) (p : Placed) → IsLowest standing z k →
    0 < p.1.micro_ohm → 0 < p.1.times → is_node p.1.to p.1.from.0 ≡ false → ends_at p.1 k ≡ true → ((m : ℕ) → ends_at p.1 m ≡ true → is_live standing m ≡ true) →
    pos p.1.micro_ohm *ℤ c p.0 ≡ pos (p.1.times * 1000000) *ℤ (z p.1.from.0 -ℤ value_at z p.1.to) → IsDownTo z c k p
conductor_down standing z c k p low some_ohm some_times differ ends live ohm = by (p.1.from.0 == k) refl
  where
    end_above : (t : End) → IsLiveEnd (is_live standing) t → z k ≤ℤ value_at z t
    end_above (Node m) alive = low.least m.0 alive
    end_above Earth alive = let below = low.below_0 in omega (arith, linear)

    by : (b : Bool) → (p.1.from.0 == k) ≡ b → IsDownTo z c k p
    by true is =
        let here = ap z (eqb-true p.1.from.0 k is) in
        let there = end_above p.1.to (end_own p.1 p.1.to refl (is_live standing) live) in
        let leaves : leaving k p.1 (c p.0) ≡ c p.0 = ap (λ b. cond b (c p.0) (neg_ℤ (c p.0))) is in
        let down_hill = falls p.1.micro_ohm (p.1.times * 1000000) (c p.0) (z p.1.from.0 -ℤ value_at z p.1.to) some_ohm ohm (omega (arith, linear)) in
        record {
          not_above_0 = omega (arith, linear);
          level = λ none.
              let flat = no_fall p.1.micro_ohm (p.1.times * 1000000) (c p.0) (z p.1.from.0 -ℤ value_at z p.1.to) (omega arith) ohm (sym leaves ∙ none) in
              record {
                from_here = λ from_is. omega (arith, linear);
                to_here = λ to_is. absurd (no_way (sym to_is ∙ ap (is_node p.1.to) (sym (eqb-true p.1.from.0 k is)) ∙ differ));
              };
        }
    by false is =
        let at_to : is_node p.1.to k ≡ true = sym (ap (λ b. b || is_node p.1.to k) is) ∙ ends in
        let here = value-node z k p.1.to at_to in
        let there = low.least p.1.from.0 (from_own p.1 (is_live standing) live) in
        let leaves : leaving k p.1 (c p.0) ≡ neg_ℤ (c p.0) = ap (λ b. cond b (c p.0) (neg_ℤ (c p.0))) is in
        let up_hill = rises p.1.micro_ohm (p.1.times * 1000000) (c p.0) (z p.1.from.0 -ℤ value_at z p.1.to) some_ohm ohm (omega (arith, linear)) in
        record {
          not_above_0 = omega (arith, linear);
          level = λ none.
              let flat = no_fall p.1.micro_ohm (p.1.times * 1000000) (c p.0) (z p.1.from.0 -ℤ value_at z p.1.to) (omega arith) ohm (omega (arith, linear)) in
              record {
                from_here = λ from_is. absurd (no_way (sym from_is ∙ is));
                to_here = λ to_is. omega (arith, linear);
              };
        }

-- a ground at a node is its own
pub ground_from : (k : ℕ) (e : Element) → is_earth e.to ≡ true → ends_at e k ≡ true → (e.from.0 == k) ≡ true
ground_from k e ground ends = at_from e.to ground ends
  where
    at_from : (t : End) → is_earth t ≡ true → ((e.from.0 == k) || is_node t k) ≡ true → (e.from.0 == k) ≡ true
    at_from (Node m) h there = absurd (no_way (sym h))
    at_from Earth h there = ⊎_elim (λ is. is) (λ is. absurd (no_way (sym is))) (or_cases (e.from.0 == k) false there)

-- a ground that only brings current to its node
pub ground_down : (z c : ℕ → ℤ) (k : ℕ) (p : Placed) → is_earth p.1.to ≡ true → ends_at p.1 k ≡ true → c p.0 <ℤ pos 0 → IsDownTo z c k p
ground_down z c k p ground ends down_hill =
    let leaves : leaving k p.1 (c p.0) ≡ c p.0 = ap (λ b. cond b (c p.0) (neg_ℤ (c p.0))) (ground_from k p.1 ground ends) in
    record {
      not_above_0 = omega (arith, linear);
      level = λ none. absurd (nothing_below (c p.0) down_hill (sym leaves ∙ none));
    }
  where
    nothing_below : (a : ℤ) → a <ℤ pos 0 → a ≡ pos 0 → ⊥
    nothing_below a h is = omega (arith, linear)

-- a ground's node is the lowest one
pub ground_lowest : (standing : List Placed) (z : ℕ → ℤ) (k : ℕ) (e : Element) → is_earth e.to ≡ true → ends_at e k ≡ true → IsLowest standing z k → z e.from.0 <ℤ pos 0
ground_lowest standing z k e ground ends low =
    let here = ap z (eqb-true e.from.0 k (ground_from k e ground ends)) in
    let below = low.below_0 in
    omega (arith, linear)

-- over plain numbers: depths below 0
depth : (a b : ℤ) (n : ℕ) → down a ≡ suc n → down b * 1 ≤ down a * 1 → a ≤ℤ b
depth (pos x) b n deep order = absurd (omega arith)
depth (negsuc x) b n deep order = omega (arith, ints)

sound : (a : ℤ) (n : ℕ) → down a ≡ suc n → a <ℤ pos 0
sound (pos x) n deep = absurd (omega arith)
sound (negsuc x) n deep = omega (arith, ints)

flat : (a b : ℤ) → down a ≡ 0 → down b * 1 ≤ down a * 1 → pos 0 ≤ℤ b
flat a (pos x) shallow order = omega (arith, ints)
flat a (negsuc x) shallow order = absurd (omega arith)

module _ (nodes : ℕ) (standing : List Placed) (within : AllByRecursion (λ p. IsElementWithin nodes p.1) standing) (z c : ℕ → ℤ)
    (kirchhoff : (k : ℕ) → IsLive standing k → sum_of (λ p. leaving k p.1 (c p.0)) (elements_at standing k) ≡ pos 0)
    (down_to : (k : ℕ) → IsLowest standing z k → AllByRecursion (IsDownTo z c k) (elements_at standing k)) where
  -- all neighbours of the lowest node have its value
  level_at : (k : ℕ) → IsLowest standing z k → AllByRecursion (λ p. ends_at p.1 k ≡ true → IsLevelAt z k p.1) standing
  level_at k low =
      let each = down_to k low in
      let above = weaker (IsDownTo z c k) (λ p. leaving k p.1 (c p.0) ≤ℤ pos 0) (λ p h. h.not_above_0) (elements_at standing k) each in
      let zeros = each_nothing (λ p. leaving k p.1 (c p.0)) (elements_at standing k) above (kirchhoff k low.live) in
      opened (λ p. ends_at p.1 k) (λ p. IsLevelAt z k p.1) standing (levels (elements_at standing k) each zeros)
    where
      levels : (ps : List Placed) → AllByRecursion (IsDownTo z c k) ps → AllByRecursion (λ p. leaving k p.1 (c p.0) ≡ pos 0) ps → AllByRecursion (λ p. IsLevelAt z k p.1) ps
      levels [] h none = tt
      levels (p ∷ ps) h none = (h.0.level none.0, levels ps h.1 none.1)

  -- so has the next one on a chain
  next_value : (k m : ℕ) (e : Element) → joins k m e ≡ true → (ends_at e k ≡ true → IsLevelAt z k e) → z m ≡ z k
  next_value k m e is level =
      ⊎_elim
      (λ h. let at_from = and_first (e.from.0 == k) (is_node e.to m) h in
      let at_to = and_second (e.from.0 == k) (is_node e.to m) h in
      sym (value-node z m e.to at_to) ∙ (level (ap (λ b. b || is_node e.to k) at_from)).from_here at_from)
      (λ h. let at_from = and_first (e.from.0 == m) (is_node e.to k) h in
      let at_to = and_second (e.from.0 == m) (is_node e.to k) h in
      sym (ap z (eqb-true e.from.0 m at_from)) ∙ (level (ap (λ b. (e.from.0 == k) || b) at_to ∙ or-true (e.from.0 == k))).to_here at_to)
      (or_cases ((e.from.0 == k) && is_node e.to m) ((e.from.0 == m) && is_node e.to k) is)

  next_live : (k m : ℕ) (e : Element) → joins k m e ≡ true → (ends_at e m ≡ true → is_live standing m ≡ true) → is_live standing m ≡ true
  next_live k m e is live =
      ⊎_elim (λ h. live (ap (λ b. (e.from.0 == m) || b) (and_second (e.from.0 == k) (is_node e.to m) h) ∙ or-true (e.from.0 == m)))
      (λ h. live (ap (λ b. b || is_node e.to m) (and_first (e.from.0 == m) (is_node e.to k) h)))
      (or_cases ((e.from.0 == k) && is_node e.to m) ((e.from.0 == m) && is_node e.to k) is)

  -- and earth, which is higher
  none_lowest : (over : List ℕ) (k : ℕ) → IsLowest standing z k → IsChainToEarth standing k over → ⊥
  none_lowest [] k low leads =
      by_any (λ p. (p.1.from.0 == k) && is_earth p.1.to) (λ p. ends_at p.1 k ≡ true → IsLevelAt z k p.1)
      (λ p is level.
      let at_from = and_first (p.1.from.0 == k) (is_earth p.1.to) is in
      let at_earth = value_earth z p.1.to (and_second (p.1.from.0 == k) (is_earth p.1.to) is) in
      higher (z k) low.below_0 (sym ((level (ap (λ b. b || is_node p.1.to k) at_from)).from_here at_from) ∙ at_earth))
      standing (level_at k low) leads
    where
      higher : (a : ℤ) → a <ℤ pos 0 → a ≡ pos 0 → ⊥
      higher a h is = omega (arith, linear)
  none_lowest (next ∷ rest) k low chain =
      let same = by_any (λ p. joins k next p.1) (λ p. ends_at p.1 k ≡ true → IsLevelAt z k p.1) (λ p is level. next_value k next p.1 is level) standing (level_at k low) chain.0 in
      let alive : is_live standing next ≡ true = by_any (λ p. joins k next p.1) (λ p. ends_at p.1 next ≡ true → is_live standing next ≡ true) (λ p is live. next_live k next p.1 is live) standing (any_of_each (λ p. ends_at p.1 next) standing) chain.0 in
      let below = low.below_0 in
      none_lowest rest next (record { live = alive; below_0 = omega (arith, linear); least = λ m live_m. let order = low.least m live_m in omega (arith, linear) }) chain.1

  -- no live node is lower than earth
  pub not_below : ((m : ℕ) → IsLive standing m → IsEarthed standing m) → (i : ℕ) → IsLive standing i → pos 0 ≤ℤ z i
  not_below earthed i live =
      by (greatest_live nodes standing within (λ m. pos (down (z m))) (λ m. 1) (λ m alive. omega arith) i live)
    where
      by : (k : ℕ) × IsGreatestAt standing (λ m. pos (down (z m))) (λ m. 1) k → pos 0 ≤ℤ z i
      by (k, top) = at (down (z k)) refl
        where
          at : (n : ℕ) → down (z k) ≡ n → pos 0 ≤ℤ z i
          at zero shallow = flat (z k) (z i) shallow (top.greatest i live)
          at (suc n) deep =
              absurd (none_lowest (earthed k top.live).over k
              (record { live = top.live; below_0 = sound (z k) n deep; least = λ m alive. depth (z k) (z m) n deep (top.greatest m alive) })
              (earthed k top.live).chain)
