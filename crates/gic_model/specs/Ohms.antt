-- Sums of fractions over a list of elements, each over the product of their resistances.
use Rattle.std.specs.Prelude.{ℕ, ◌*◌, List, [], ◌∷◌, ℤ, pos, ◌+ℤ◌, ◌*ℤ◌}
use Rattle.gic_model.specs.Sums.{Placed}

-- the product of the resistances in micro-ohm
abbrev pub product_of_ohms : List Placed → ℕ
product_of_ohms [] = 1
product_of_ohms (p ∷ ps) = p.1.micro_ohm * product_of_ohms ps

-- the numerator of the sum of the fractions `f p / R`, whose denominator is the product of the resistances R
abbrev pub sum_over_ohms : (Placed → ℤ) → List Placed → ℤ
sum_over_ohms f [] = pos 0
sum_over_ohms f (p ∷ ps) = f p *ℤ pos (product_of_ohms ps) +ℤ pos p.1.micro_ohm *ℤ sum_over_ohms f ps
