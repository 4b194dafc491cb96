-- The conductance at a live node is above 0.
use Rattle.std.proofs.Common.{◌≡◌, ℕ, ◌+◌, ◌*◌, ◌<◌, Bool, true, false, cond, ◌||◌, List, [], ◌∷◌, pos, ◌+ℤ◌, ◌*ℤ◌, arith, refl, ap, sym, ◌∙◌}
use Rattle.std.specs.List.{AllByRecursion, filter, list_any}
use Rattle.gic_fixed.proofs.Divisions.{positive_product}
use Rattle.gic_model.specs.Limits.{IsElementWithin}
use Rattle.gic_model.specs.Sums.{Placed}
use Rattle.gic_model.specs.Ohms.{product_of_ohms, sum_over_ohms}
use Rattle.gic_model.proofs.SumLaws.{HasOhms, product_positive}
use Rattle.gic_model.proofs.Ends.{some_times}
use Rattle.gic_model.proofs.Row.{weight}

-- a sum of conductances is not below 0
pub natural : (ps : List Placed) → (g : ℕ) × (sum_over_ohms weight ps ≡ pos g)
natural [] = (0, refl)
natural (p ∷ ps) = more (natural ps)
  where
    more : (g : ℕ) × (sum_over_ohms weight ps ≡ pos g) → (g : ℕ) × (sum_over_ohms weight (p ∷ ps) ≡ pos g)
    more (g, is) = (p.1.times * 1000000 * product_of_ohms ps + p.1.micro_ohm * g, ap (λ z. weight p *ℤ pos (product_of_ohms ps) +ℤ pos p.1.micro_ohm *ℤ z) is)

pub above_0 : (p : Placed) (ps : List Placed) → 0 < p.1.times → AllByRecursion HasOhms ps → (g : ℕ) × (0 < g) × (sum_over_ohms weight (p ∷ ps) ≡ pos g)
above_0 p ps some h = more (natural ps)
  where
    more : (g : ℕ) × (sum_over_ohms weight ps ≡ pos g) → (g : ℕ) × (0 < g) × (sum_over_ohms weight (p ∷ ps) ≡ pos g)
    more (g, is) =
        let first = positive_product (p.1.times * 1000000) (product_of_ohms ps) (omega arith) (product_positive ps h) in
        (p.1.times * 1000000 * product_of_ohms ps + p.1.micro_ohm * g, omega arith, ap (λ z. weight p *ℤ pos (product_of_ohms ps) +ℤ pos p.1.micro_ohm *ℤ z) is)

-- where an element passes the test
pub conductance_positive : (nodes : ℕ) (test : Placed → Bool) (ps : List Placed) → AllByRecursion (λ p. IsElementWithin nodes p.1) ps →
    AllByRecursion HasOhms (filter test ps) → list_any test ps ≡ true → (g : ℕ) × (0 < g) × (sum_over_ohms weight (filter test ps) ≡ pos g)
conductance_positive nodes test [] h ohms any = absurd (no_way any)
  where
    no_way : false ≡ true → ⊥
    no_way e = cc
conductance_positive nodes test (p ∷ ps) h ohms any = by (conductance_positive nodes test ps h.1) (test p) refl ohms
  where
    some : 0 < p.1.times
    some = let one = some_times nodes p h.0 in omega arith

    by : (AllByRecursion HasOhms (filter test ps) → list_any test ps ≡ true → (g : ℕ) × (0 < g) × (sum_over_ohms weight (filter test ps) ≡ pos g)) →
        (b : Bool) → test p ≡ b → AllByRecursion HasOhms (cond b (p ∷ filter test ps) (filter test ps)) →
        (g : ℕ) × (0 < g) × (sum_over_ohms weight (cond b (p ∷ filter test ps) (filter test ps)) ≡ pos g)
    by later true is have = above_0 p (filter test ps) some have.1
    by later false is have = later have (sym (ap (λ b. b || list_any test ps) is) ∙ any)
