-- Tellegen's theorem: currents that keep Kirchhoff's law carry nothing, all together, over the differences of any potentials.
use Rattle.std.proofs.Common.{◌≡◌, ℕ, zero, suc, ◌<◌, Bool, true, false, cond, ◌||◌, ◌==◌, List, [], ◌∷◌, ℤ, pos, ◌+ℤ◌, ◌-ℤ◌, ◌*ℤ◌, neg_ℤ, arith, refl, ap, sym, ◌∙◌, ⊎_elim, eqb-true, eq-eqb}
use lib.IntN.{*ℤ_comm, *ℤ-zero}
use Rattle.std.specs.List.{AllByRecursion, filter, list_any}
use Rattle.gic_model.specs.declared.parts.End.{End}
use Rattle.gic_model.specs.declared.parts.End.TheVariants.{Node, Earth}
use Rattle.gic_model.specs.declared.parts.Element.{Element}
use Rattle.gic_model.specs.Network.{is_node, ends_at}
use Rattle.gic_model.specs.Limits.{IsElementWithin, IsEndWithin}
use Rattle.gic_model.specs.Standing.{is_live, IsLive, elements_at, value_at, leaving}
use Rattle.gic_model.specs.Sums.{Placed, sum_of}
use Rattle.gic_fixed.proofs.Integers.{linear, *ℤ--ℤ, *ℤ-neg_ℤ}
use Rattle.gic_fixed.proofs.Sums.{sum_of-same, sum_of-*ℤ, sum_of-+ℤ}
use Rattle.gic_base.proofs.Each.{weaker}
use Rattle.gic_model.proofs.Ratios.{last_or_below}

-- the part of one that a test keeps, else 0
abbrev pub if_kept : Bool → ℤ → ℤ
if_kept b z = cond b z (pos 0)

-- a sum over those that a test keeps
pub sum_of-filter : {X : Type 0} (f : X → ℤ) (test : X → Bool) (xs : List X) → sum_of f (filter test xs) ≡ sum_of (λ x. if_kept (test x) (f x)) xs
sum_of-filter f test [] = refl
sum_of-filter {X} f test (x ∷ xs) = by (test x) (sum_of-filter f test xs)
  where
    by : (b : Bool) → sum_of f (filter test xs) ≡ sum_of (λ y. if_kept (test y) (f y)) xs →
        sum_of f (cond b (x ∷ filter test xs) (filter test xs)) ≡ if_kept b (f x) +ℤ sum_of (λ y. if_kept (test y) (f y)) xs
    by true rest = ap (λ z. f x +ℤ z) rest
    by false rest = omega (arith, linear)

-- where none passes the test it is 0
nothing_kept : {X : Type 0} (f : X → ℤ) (test : X → Bool) (xs : List X) → list_any test xs ≡ false → sum_of f (filter test xs) ≡ pos 0
nothing_kept f test [] none = refl
nothing_kept {X} f test (x ∷ xs) none = by (test x) none (nothing_kept f test xs)
  where
    by : (b : Bool) → (b || list_any test xs) ≡ false → (list_any test xs ≡ false → sum_of f (filter test xs) ≡ pos 0) → sum_of f (cond b (x ∷ filter test xs) (filter test xs)) ≡ pos 0
    by true none_there later = absurd (no_way none_there)
      where
        no_way : true ≡ false → ⊥
        no_way q = cc
    by false none_there later = later none_there

pub sum_of_zeros : {X : Type 0} (xs : List X) → sum_of (λ x. pos 0) xs ≡ pos 0
sum_of_zeros [] = refl
sum_of_zeros (x ∷ xs) = let rest = sum_of_zeros xs in omega (arith, linear)

-- y, with 0 at the node n
abbrev without : ℕ → (ℕ → ℤ) → ℕ → ℤ
without n y m = cond (m == n) (pos 0) (y m)

-- the difference of y along an element, from its `from` to its `to`
abbrev pub along : (ℕ → ℤ) → Element → ℤ
along y e = y e.from.0 -ℤ value_at y e.to

-- over plain numbers, where the node is the `from`, and where it is the `to`
at_from : (c y t : ℤ) → c *ℤ (y -ℤ t) ≡ c *ℤ (pos 0 -ℤ t) +ℤ y *ℤ c
at_from c y t =
    let left = *ℤ--ℤ c y t in
    let right = *ℤ--ℤ c (pos 0) t in
    let none = *ℤ-zero c in
    let turned = *ℤ_comm y c in
    omega (arith, linear)

at_to : (c f y : ℤ) → c *ℤ (f -ℤ y) ≡ c *ℤ (f -ℤ pos 0) +ℤ y *ℤ neg_ℤ c
at_to c f y =
    let left = *ℤ--ℤ c f y in
    let right = *ℤ--ℤ c f (pos 0) in
    let none = *ℤ-zero c in
    let minus = *ℤ-neg_ℤ y c in
    let turned = *ℤ_comm y c in
    omega (arith, linear)

at_neither : (c f t y : ℤ) → c *ℤ (f -ℤ t) ≡ c *ℤ (f -ℤ t) +ℤ y *ℤ pos 0
at_neither c f t y = let none = *ℤ-zero y in omega (arith, linear)

-- what one element carries, with and without the node n
one_less : (n : ℕ) (y : ℕ → ℤ) (e : Element) (c : ℤ) → is_node e.to e.from.0 ≡ false →
    c *ℤ along y e ≡ c *ℤ along (without n y) e +ℤ y n *ℤ if_kept (ends_at e n) (leaving n e c)
one_less n y e c differ = by (e.from.0 == n) refl
  where
    no_way : true ≡ false → ⊥
    no_way q = cc

    ending : (t : End) → (b : Bool) → is_node t n ≡ b → value_at (without n y) t ≡ cond b (pos 0) (value_at y t)
    ending (Node m) b is = ap (λ z. cond z (pos 0) (y m.0)) is
    ending Earth true is = refl
    ending Earth false is = refl

    reached : (t : End) → is_node t n ≡ true → value_at y t ≡ y n
    reached (Node m) is = ap y (eqb-true m.0 n is)
    reached Earth is = absurd (no_way (sym is))

    apart : (e.from.0 == n) ≡ true → is_node e.to n ≡ false
    apart is = ap (is_node e.to) (sym (eqb-true e.from.0 n is)) ∙ differ

    by_to : (e.from.0 == n) ≡ false → (b : Bool) → is_node e.to n ≡ b →
        c *ℤ along y e ≡ c *ℤ along (without n y) e +ℤ y n *ℤ if_kept (false || b) (neg_ℤ c)
    by_to not_from true is =
        let from_is = ap (λ b. cond b (pos 0) (y e.from.0)) not_from in
        let to_is = ending e.to true is in
        let there = reached e.to is in
        ap (λ z. c *ℤ (y e.from.0 -ℤ z)) there ∙ at_to c (y e.from.0) (y n) ∙ ap (λ z. c *ℤ z +ℤ y n *ℤ neg_ℤ c) (sym (ap (λ z. z -ℤ value_at (without n y) e.to) from_is ∙ ap (λ z. y e.from.0 -ℤ z) to_is))
    by_to not_from false is =
        let from_is = ap (λ b. cond b (pos 0) (y e.from.0)) not_from in
        let to_is = ending e.to false is in
        at_neither c (y e.from.0) (value_at y e.to) (y n) ∙ ap (λ z. c *ℤ z +ℤ y n *ℤ pos 0) (sym (ap (λ z. z -ℤ value_at (without n y) e.to) from_is ∙ ap (λ z. y e.from.0 -ℤ z) to_is))

    by : (b : Bool) → (e.from.0 == n) ≡ b → c *ℤ along y e ≡ c *ℤ along (without n y) e +ℤ y n *ℤ if_kept (b || is_node e.to n) (cond b c (neg_ℤ c))
    by true is =
        let from_is = ap (λ b. cond b (pos 0) (y e.from.0)) is in
        let to_is = ending e.to false (apart is) in
        let here = ap y (eqb-true e.from.0 n is) in
        ap (λ z. c *ℤ (z -ℤ value_at y e.to)) here ∙ at_from c (y n) (value_at y e.to) ∙ ap (λ z. c *ℤ z +ℤ y n *ℤ c) (sym (ap (λ z. z -ℤ value_at (without n y) e.to) from_is ∙ ap (λ z. pos 0 -ℤ z) to_is))
    by false is = by_to is (is_node e.to n) refl

-- y with 0 at all nodes below n
abbrev without_below : ℕ → (ℕ → ℤ) → ℕ → ℤ
without_below zero y = y
without_below (suc n) y = without n (without_below n y)

-- there it is 0
none_below : (n : ℕ) (y : ℕ → ℤ) (m : ℕ) → m < n → without_below n y m ≡ pos 0
none_below zero y m h = absurd (omega arith)
none_below (suc n) y m h =
    ⊎_elim (λ is. ap (λ b. cond b (pos 0) (without_below n y m)) (eq-eqb m n is))
    (λ less. either (m == n) (none_below n y m less)) (last_or_below n m h)
  where
    either : (b : Bool) → without_below n y m ≡ pos 0 → cond b (pos 0) (without_below n y m) ≡ pos 0
    either true is = refl
    either false is = is

module _ (nodes : ℕ) (standing : List Placed) (within : AllByRecursion (λ p. IsElementWithin nodes p.1) standing)
    (current : ℕ → ℤ) (kirchhoff : (k : ℕ) → IsLive standing k → sum_of (λ p. leaving k p.1 (current p.0)) (elements_at standing k) ≡ pos 0) where
  -- at a dead node nothing leaves either
  nothing_leaves : (k : ℕ) (b : Bool) → is_live standing k ≡ b → sum_of (λ p. leaving k p.1 (current p.0)) (elements_at standing k) ≡ pos 0
  nothing_leaves k true live = kirchhoff k live
  nothing_leaves k false dead = nothing_kept (λ p. leaving k p.1 (current p.0)) (λ p. ends_at p.1 k) standing dead

  -- what the elements carry
  abbrev carries : (ℕ → ℤ) → ℤ
  carries y = sum_of (λ p. current p.0 *ℤ along y p.1) standing

  -- a node is left out without a change
  less_one : (n : ℕ) (y : ℕ → ℤ) → carries y ≡ carries (without n y)
  less_one n y =
      let part : Placed → ℤ = λ p. if_kept (ends_at p.1 n) (leaving n p.1 (current p.0)) in
      let each = weaker (λ p. IsElementWithin nodes p.1) (λ p. current p.0 *ℤ along y p.1 ≡ current p.0 *ℤ along (without n y) p.1 +ℤ y n *ℤ part p) (λ p h. one_less n y p.1 (current p.0) h.ends_differ) standing within in
      let same = sum_of-same (λ p. current p.0 *ℤ along y p.1) (λ p. current p.0 *ℤ along (without n y) p.1 +ℤ y n *ℤ part p) standing each in
      let split = sum_of-+ℤ (λ p. current p.0 *ℤ along (without n y) p.1) (λ p. y n *ℤ part p) standing in
      let out = sum_of-*ℤ (y n) part standing in
      let gathered = sum_of-filter (λ p. leaving n p.1 (current p.0)) (λ p. ends_at p.1 n) standing in
      let none : sum_of part standing ≡ pos 0 = sym gathered ∙ nothing_leaves n (is_live standing n) refl in
      let nothing = ap (λ z. y n *ℤ z) none ∙ *ℤ-zero (y n) in
      omega (arith, linear)

  less_below : (n : ℕ) (y : ℕ → ℤ) → carries y ≡ carries (without_below n y)
  less_below zero y = refl
  less_below (suc n) y = less_below n y ∙ less_one n (without_below n y)

  -- so what is carried over any potentials is nothing
  pub carries_nothing : (y : ℕ → ℤ) → sum_of (λ p. current p.0 *ℤ along y p.1) standing ≡ pos 0
  carries_nothing y =
      let none = without_below nodes y in
      less_below nodes y ∙
      sum_of-same (λ p. current p.0 *ℤ along none p.1) (λ p. pos 0) standing
      (weaker (λ p. IsElementWithin nodes p.1) (λ p. current p.0 *ℤ along none p.1 ≡ pos 0) (λ p h. still p h) standing within) ∙
      sum_of_zeros standing
    where
      at_end : (t : End) → IsEndWithin nodes t → value_at (without_below nodes y) t ≡ pos 0
      at_end (Node m) h = none_below nodes y m.0 h
      at_end Earth h = refl

      still : (p : Placed) → IsElementWithin nodes p.1 → current p.0 *ℤ along (without_below nodes y) p.1 ≡ pos 0
      still p h =
          let from_is = none_below nodes y p.1.from.0 h.from_node in
          let to_is = at_end p.1.to h.to_end in
          let inner : along (without_below nodes y) p.1 ≡ pos 0 = omega (arith, linear) in
          ap (λ z. current p.0 *ℤ z) inner ∙ *ℤ-zero (current p.0)
