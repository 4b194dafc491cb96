-- Sums of whole numbers over a list.
use Rattle.std.specs.Prelude.{List, [], ◌∷◌, ℤ, pos, ◌+ℤ◌}

-- the sum of f over the list
abbrev pub sum_of : {X : Type 0} → (X → ℤ) → List X → ℤ
sum_of f [] = pos 0
sum_of f (x ∷ xs) = f x +ℤ sum_of f xs
