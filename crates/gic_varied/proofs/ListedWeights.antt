-- Weights that are listed by their places, the sum of the currents there, and what such weights add up to.
use Rattle.std.proofs.Common.{◌≡◌, ℕ, ◌+◌, ◌*◌, ◌<◌, Bool, true, false, cond, ◌||◌, ◌==◌, List, [], ◌∷◌, ℤ, pos, negsuc, ◌+ℤ◌, ◌*ℤ◌, ◌≤ℤ◌, unsigned_abs, arith, refl, ap, sym, ◌∙◌, eqb-true, eq-eqb, ne_eqb}
use lib.IntN.{*ℤ_comm, *ℤ-zero}
use Rattle.std.specs.List.{AllByRecursion, filter, enumerate_from, sum_by}
use Rattle.std.proofs.lemmas.List.Sums.{sum_by-cons}
use Rattle.gic_base.specs.declared.id.ElementId.{ElementId}
use Rattle.gic_fixed.proofs.Integers.{linear, *ℤ-+ℤ, +ℤ-*ℤ, *ℤ_assoc, *ℤ-≤ℤ}
use Rattle.gic_fixed.proofs.Sums.{sum_of-same, sum_of-+ℤ, sum_of-*ℤ, sum_of-pos}
use Rattle.gic_model.specs.declared.parts.Element.{Element}
use Rattle.gic_model.specs.declared.parts.Item.{Item}
use Rattle.gic_model.specs.Network.{Network}
use Rattle.gic_model.specs.Solution.{Solution}
use Rattle.gic_model.specs.Standing.{is_standing, standing_elements}
use Rattle.gic_model.specs.Sums.{Placed, sum_of}
use Rattle.gic_varied.specs.Reach.{ListedWeightsAddUp}
use Rattle.gic_varied.specs.Reciprocal.{weights_from, current_by_weights}
use Rattle.gic_varied.proofs.Tellegen.{if_kept, sum_of_zeros}

-- the place a before all others, and among them
none_before : (test : Placed → Bool) (a : ℕ) (g : ℕ → ℤ) (i : ℕ) (es : List Element) → a < i → sum_of (λ p. if_kept (a == p.0) (g p.0)) (filter test (enumerate_from i es)) ≡ pos 0
none_before test a g i [] before = refl
none_before test a g i (e ∷ es) before = by (test (i, e)) (none_before test a g (i + 1) es (omega arith))
  where
    by : (b : Bool) → sum_of (λ p. if_kept (a == p.0) (g p.0)) (filter test (enumerate_from (i + 1) es)) ≡ pos 0 →
        sum_of (λ p. if_kept (a == p.0) (g p.0)) (cond b ((i, e) ∷ filter test (enumerate_from (i + 1) es)) (filter test (enumerate_from (i + 1) es))) ≡ pos 0
    by true rest =
        let here = ap (λ b. if_kept b (g i)) (ne_eqb a i (λ is. omega arith)) in
        omega (arith, linear)
    by false rest = rest

one_place : (test : Placed → Bool) (a : ℕ) (g : ℕ → ℤ) (i : ℕ) (es : List Element) →
    sum_of (λ p. if_kept (a == p.0) (g p.0)) (filter test (enumerate_from i es)) ≡ if_kept (is_standing (filter test (enumerate_from i es)) a) (g a)
one_place test a g i [] = refl
one_place test a g i (e ∷ es) = by (test (i, e)) (one_place test a g (i + 1) es)
  where
    here : (b : Bool) → (i == a) ≡ b → sum_of (λ p. if_kept (a == p.0) (g p.0)) (filter test (enumerate_from (i + 1) es)) ≡ if_kept (is_standing (filter test (enumerate_from (i + 1) es)) a) (g a) →
        if_kept (a == i) (g i) +ℤ sum_of (λ p. if_kept (a == p.0) (g p.0)) (filter test (enumerate_from (i + 1) es)) ≡ if_kept (b || is_standing (filter test (enumerate_from (i + 1) es)) a) (g a)
    here true is rest =
        let same = eqb-true i a is in
        let first = ap (λ b. if_kept b (g i)) (eq-eqb a i (sym same)) ∙ ap g same in
        let later = none_before test a g (i + 1) es (omega arith) in
        omega (arith, linear)
    here false is rest =
        let first = ap (λ b. if_kept b (g i)) (other_way (a == i) refl) in
        omega (arith, linear)
      where
        other_way : (b : Bool) → (a == i) ≡ b → (a == i) ≡ false
        other_way true same = absurd (no_way (sym (eq-eqb i a (sym (eqb-true a i same))) ∙ is))
          where
            no_way : true ≡ false → ⊥
            no_way q = cc
        other_way false same = same

    by : (b : Bool) → sum_of (λ p. if_kept (a == p.0) (g p.0)) (filter test (enumerate_from (i + 1) es)) ≡ if_kept (is_standing (filter test (enumerate_from (i + 1) es)) a) (g a) →
        sum_of (λ p. if_kept (a == p.0) (g p.0)) (cond b ((i, e) ∷ filter test (enumerate_from (i + 1) es)) (filter test (enumerate_from (i + 1) es))) ≡
        if_kept (is_standing (cond b ((i, e) ∷ filter test (enumerate_from (i + 1) es)) (filter test (enumerate_from (i + 1) es))) a) (g a)
    by true rest = here (i == a) refl rest
    by false rest = rest

-- one term: the first of the list, and the others
term : (c : ℕ) (b : Bool) (w : ℕ) (rest z : ℤ) → (pos c *ℤ (if_kept b (pos w) +ℤ rest)) *ℤ z ≡ if_kept b (pos c *ℤ (pos w *ℤ z)) +ℤ (pos c *ℤ rest) *ℤ z
term c true w rest z =
    let split = ap (λ y. y *ℤ z) (*ℤ-+ℤ (pos c) (pos w) rest) in
    let sum = +ℤ-*ℤ (pos c *ℤ pos w) (pos c *ℤ rest) z in
    let first : (pos c *ℤ pos w) *ℤ z ≡ pos c *ℤ (pos w *ℤ z) = *ℤ_assoc (pos c) (pos w) z in
    omega (arith, linear)
term c false w rest z =
    let inner : pos 0 +ℤ rest ≡ rest = omega (arith, linear) in
    let same = ap (λ y. (pos c *ℤ y) *ℤ z) inner in
    omega (arith, linear)

-- what stands nowhere carries nothing
either_way : (b : Bool) (c w : ℕ) (z : ℤ) → (b ≡ false → z ≡ pos 0) → if_kept b (pos c *ℤ (pos w *ℤ z)) ≡ pos c *ℤ (pos w *ℤ z)
either_way true c w z none = refl
either_way false c w z none = sym (ap (λ y. pos c *ℤ (pos w *ℤ y)) (none refl) ∙ ap (λ y. pos c *ℤ y) (*ℤ-zero (pos w)) ∙ *ℤ-zero (pos c))

no_weight : (c : ℕ) (z : ℤ) → (pos c *ℤ pos 0) *ℤ z ≡ pos 0
no_weight c z = ap (λ y. y *ℤ z) (*ℤ-zero (pos c)) ∙ *ℤ_comm (pos 0) z ∙ *ℤ-zero z

pub listed_count : (network : Network) (stands : Item → Bool) (windings : List (ElementId × ℕ)) (c : ℕ) (s : Solution) →
    ((place : ℕ) → is_standing (standing_elements network stands) place ≡ false → s.current place ≡ pos 0) →
    current_by_weights (standing_elements network stands) (weights_from c windings) s ≡ pos c *ℤ sum_of (λ w. pos w.1 *ℤ s.current w.0.0) windings
listed_count network stands [] c s none =
    sum_of-same (λ p. (pos c *ℤ pos 0) *ℤ s.current p.0) (λ p. pos 0) (standing_elements network stands) (each (standing_elements network stands)) ∙
    sum_of_zeros (standing_elements network stands) ∙ sym (*ℤ-zero (pos c))
  where
    each : (ps : List Placed) → AllByRecursion (λ p. (pos c *ℤ pos 0) *ℤ s.current p.0 ≡ pos 0) ps
    each [] = tt
    each (p ∷ ps) = (no_weight c (s.current p.0), each ps)
listed_count network stands (w ∷ ws) c s none =
    let standing = standing_elements network stands in
    let first : Placed → ℤ = λ p. if_kept (w.0.0 == p.0) (pos c *ℤ (pos w.1 *ℤ s.current p.0)) in
    let others : Placed → ℤ = λ p. weights_from c ws p.0 *ℤ s.current p.0 in
    let same = sum_of-same (λ p. weights_from c (w ∷ ws) p.0 *ℤ s.current p.0) (λ p. first p +ℤ others p) standing (each standing) in
    let split = sum_of-+ℤ first others standing in
    let here = one_place (λ p. stands p.1.item) w.0.0 (λ place. pos c *ℤ (pos w.1 *ℤ s.current place)) 0 network.list in
    let whole = either_way (is_standing standing w.0.0) c w.1 (s.current w.0.0) (none w.0.0) in
    let rest = listed_count network stands ws c s none in
    let out = *ℤ-+ℤ (pos c) (pos w.1 *ℤ s.current w.0.0) (sum_of (λ x. pos x.1 *ℤ s.current x.0.0) ws) in
    omega (arith, linear)
  where
    each : (ps : List Placed) → AllByRecursion (λ p. weights_from c (w ∷ ws) p.0 *ℤ s.current p.0 ≡ if_kept (w.0.0 == p.0) (pos c *ℤ (pos w.1 *ℤ s.current p.0)) +ℤ weights_from c ws p.0 *ℤ s.current p.0) ps
    each [] = tt
    each (p ∷ ps) = (term c (w.0.0 == p.0) w.1 (sum_of (λ x. cond (x.0.0 == p.0) (pos x.1) (pos 0)) ws) (s.current p.0), each ps)

-- what the list has at a place
abbrev listed_at : List (ElementId × ℕ) → ℕ → ℤ
listed_at windings place = sum_of (λ w. cond (w.0.0 == place) (pos w.1) (pos 0)) windings

listed_not_below_0 : (windings : List (ElementId × ℕ)) (place : ℕ) → pos 0 ≤ℤ listed_at windings place
listed_not_below_0 [] place = omega (arith, linear)
listed_not_below_0 (w ∷ ws) place = by (w.0.0 == place) (listed_not_below_0 ws place)
  where
    by : (b : Bool) → pos 0 ≤ℤ listed_at ws place → pos 0 ≤ℤ (cond b (pos w.1) (pos 0) +ℤ listed_at ws place)
    by true rest = omega (arith, linear)
    by false rest = omega (arith, linear)

kept_at_most : (b : Bool) (n : ℕ) → if_kept b (pos n) ≤ℤ pos n
kept_at_most true n = omega (arith, linear)
kept_at_most false n = omega (arith, linear)

-- over the standing elements, where each place of the list counts once at most, it adds up to no more than the list itself
listed_sum : (network : Network) (stands : Item → Bool) (windings : List (ElementId × ℕ)) →
    sum_of (λ p. listed_at windings p.0) (standing_elements network stands) ≤ℤ pos (sum_by (λ w. w.1) windings)
listed_sum network stands [] = let none = sum_of_zeros (standing_elements network stands) in omega (arith, linear)
listed_sum network stands (w ∷ ws) =
    let standing = standing_elements network stands in
    let split = sum_of-+ℤ (λ p. if_kept (w.0.0 == p.0) (pos w.1)) (λ p. listed_at ws p.0) standing in
    let here = one_place (λ p. stands p.1.item) w.0.0 (λ place. pos w.1) 0 network.list in
    let first = kept_at_most (is_standing standing w.0.0) w.1 in
    let rest = listed_sum network stands ws in
    let all = sum_by-cons (λ x. x.1) w ws in
    omega (arith, linear)

-- sizes of what is not below 0 add up to its sum
sizes_sum : (f : Placed → ℤ) → ((p : Placed) → pos 0 ≤ℤ f p) → (ps : List Placed) → pos (sum_by (λ p. unsigned_abs (f p)) ps) ≡ sum_of f ps
sizes_sum f above ps = sym (sum_of-same f (λ p. pos (unsigned_abs (f p))) ps (each ps) ∙ sum_of-pos (λ p. unsigned_abs (f p)) ps)
  where
    own : (z : ℤ) → pos 0 ≤ℤ z → z ≡ pos (unsigned_abs z)
    own (pos n) h = refl
    own (negsuc n) h = absurd (omega (arith, linear))

    each : (qs : List Placed) → AllByRecursion (λ p. f p ≡ pos (unsigned_abs (f p))) qs
    each [] = tt
    each (p ∷ qs) = (own (f p) (above p), each qs)

pub listed_add_up : ListedWeightsAddUp
listed_add_up network stands times windings =
    let standing = standing_elements network stands in
    let sizes = sizes_sum (λ p. weights_from times windings p.0) (λ p. not_below_0 p.0) standing in
    let out = sum_of-*ℤ (pos times) (λ p. listed_at windings p.0) standing in
    let bound : (pos times *ℤ sum_of (λ p. listed_at windings p.0) standing) ≤ℤ pos (times * sum_by (λ w. w.1) windings) =
    *ℤ-≤ℤ times (sum_of (λ p. listed_at windings p.0) standing) (pos (sum_by (λ w. w.1) windings)) (listed_sum network stands windings) in
    omega (arith, linear)
  where
    not_below_0 : (place : ℕ) → pos 0 ≤ℤ weights_from times windings place
    not_below_0 place =
        let scaled = *ℤ-≤ℤ times (pos 0) (listed_at windings place) (listed_not_below_0 windings place) in
        let none = *ℤ-zero (pos times) in
        omega (arith, linear)
