-- A number for each standing element, found by its place; and the product of the resistances, shared out.
use Rattle.std.proofs.Common.{◌≡◌, ℕ, ◌+◌, ◌*◌, ◌/◌, ◌<◌, ◌≤◌, ◌==◌, Bool, true, false, cond, ◌||◌, List, [], ◌∷◌, ℤ, pos, arith, refl, ap, sym, ◌∙◌, eq-eqb}
use Rattle.std.specs.List.{AllByRecursion, filter, enumerate_from}
use Rattle.std.proofs.Math.Nat.{mul-div_cancel_left}
use Rattle.std.proofs.lemmas.Bool.{ne_eqb}
use Rattle.gic_base.proofs.Each.{weaker}
use Rattle.gic_model.specs.declared.parts.Element.{Element}
use Rattle.gic_model.specs.Standing.{is_standing}
use Rattle.gic_model.specs.Sums.{Placed}
use Rattle.gic_model.specs.Ohms.{product_of_ohms}
use Rattle.gic_model.proofs.SumLaws.{HasOhms}
use Rattle.gic_model.proofs.Members.{kept, both}

-- g of the first element at the place, 0 where there is none
abbrev pub found_at : (Placed → ℤ) → List Placed → ℕ → ℤ
found_at g [] place = pos 0
found_at g (p ∷ ps) place = cond (p.0 == place) (g p) (found_at g ps place)

-- places that do not come twice
abbrev pub IsApart : List Placed → Type 0
IsApart ps = (g : Placed → ℤ) → AllByRecursion (λ p. found_at g ps p.0 ≡ g p) ps

from_place : (j i : ℕ) (es : List Element) → j ≤ i → AllByRecursion (λ p. j ≤ p.0) (enumerate_from i es)
from_place j i [] h = tt
from_place j i (e ∷ es) h = (h, from_place j (i + 1) es (omega arith))

pub apart : (test : Placed → Bool) (i : ℕ) (es : List Element) → IsApart (filter test (enumerate_from i es))
apart test i [] g = tt
apart test i (e ∷ es) g = by (apart test (i + 1) es g) (test (i, e)) refl
  where
    rest : List Placed
    rest = filter test (enumerate_from (i + 1) es)

    later : AllByRecursion (λ p. found_at g (filter test (enumerate_from (i + 1) es)) p.0 ≡ g p) (filter test (enumerate_from (i + 1) es)) →
        AllByRecursion (λ p. cond (i == p.0) (g (i, e)) (found_at g (filter test (enumerate_from (i + 1) es)) p.0) ≡ g p) (filter test (enumerate_from (i + 1) es))
    later have =
        weaker (λ p. (found_at g (filter test (enumerate_from (i + 1) es)) p.0 ≡ g p) × (i + 1 ≤ p.0)) (λ p. cond (i == p.0) (g (i, e)) (found_at g (filter test (enumerate_from (i + 1) es)) p.0) ≡ g p)
        (λ p h. let past = h.1 in ap (λ b. cond b (g (i, e)) (found_at g (filter test (enumerate_from (i + 1) es)) p.0)) (ne_eqb i p.0 (λ is. omega arith)) ∙ h.0) (filter test (enumerate_from (i + 1) es))
        (both (λ p. found_at g (filter test (enumerate_from (i + 1) es)) p.0 ≡ g p) (λ p. i + 1 ≤ p.0) (filter test (enumerate_from (i + 1) es)) have
        (kept test (λ p. i + 1 ≤ p.0) (λ p. i + 1 ≤ p.0) (λ p is h. h) (enumerate_from (i + 1) es) (from_place (i + 1) (i + 1) es (omega arith))))

    by : AllByRecursion (λ p. found_at g (filter test (enumerate_from (i + 1) es)) p.0 ≡ g p) (filter test (enumerate_from (i + 1) es)) → (b : Bool) → test (i, e) ≡ b →
        AllByRecursion (λ p. found_at g (cond b ((i, e) ∷ filter test (enumerate_from (i + 1) es)) (filter test (enumerate_from (i + 1) es))) p.0 ≡ g p) (cond b ((i, e) ∷ filter test (enumerate_from (i + 1) es)) (filter test (enumerate_from (i + 1) es)))
    by have true is = (ap (λ b. cond b (g (i, e)) (found_at g (filter test (enumerate_from (i + 1) es)) i)) (eq-eqb i i refl), later have)
    by have false is = have

-- nothing where none stands
pub none_found : (g : Placed → ℤ) (ps : List Placed) (place : ℕ) → is_standing ps place ≡ false → found_at g ps place ≡ pos 0
none_found g [] place h = refl
none_found g (p ∷ ps) place h = by (none_found g ps place) (p.0 == place) h
  where
    no_way : true ≡ false → ⊥
    no_way e = cc

    by : (is_standing ps place ≡ false → found_at g ps place ≡ pos 0) → (b : Bool) → (b || is_standing ps place) ≡ false → cond b (g p) (found_at g ps place) ≡ pos 0
    by rest true none = absurd (no_way none)
    by rest false none = rest none

-- each resistance divides the product
divides : (ps : List Placed) → AllByRecursion (λ p. (q : ℕ) × (product_of_ohms ps ≡ p.1.micro_ohm * q)) ps
divides [] = tt
divides (p ∷ ps) = (
  (product_of_ohms ps, refl),
  weaker (λ r. (q : ℕ) × (product_of_ohms ps ≡ r.1.micro_ohm * q)) (λ r. (q : ℕ) × (p.1.micro_ohm * product_of_ohms ps ≡ r.1.micro_ohm * q))
      (λ r h. (p.1.micro_ohm * h.0, let scaled = ap (λ z. p.1.micro_ohm * z) h.1 in omega arith)) ps (divides ps),
)

quotient : (m r q : ℕ) → 0 < r → m ≡ r * q → r * (m / r) ≡ m
quotient m r q some is = ap (λ z. r * (z / r)) is ∙ ap (λ z. r * z) (mul-div_cancel_left q some) ∙ sym is

-- the product of the other resistances
abbrev pub others : List Placed → Placed → ℕ
others ps p = product_of_ohms ps / p.1.micro_ohm

pub shared : (ps : List Placed) → AllByRecursion HasOhms ps → AllByRecursion (λ p. p.1.micro_ohm * others ps p ≡ product_of_ohms ps) ps
shared ps some =
    weaker (λ p. HasOhms p × ((q : ℕ) × (product_of_ohms ps ≡ p.1.micro_ohm * q))) (λ p. p.1.micro_ohm * others ps p ≡ product_of_ohms ps)
    (λ p h. quotient (product_of_ohms ps) p.1.micro_ohm h.1.0 h.0 h.1.1) ps (both HasOhms (λ p. (q : ℕ) × (product_of_ohms ps ≡ p.1.micro_ohm * q)) ps some (divides ps))
