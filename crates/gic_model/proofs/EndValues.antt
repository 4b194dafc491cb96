-- The value at an end of a sum and of a multiple.
use Rattle.std.proofs.Common.{◌≡◌, ℕ, ℤ, ◌+ℤ◌, ◌*ℤ◌, refl, sym}
use lib.IntN.{*ℤ-zero}
use Rattle.gic_model.specs.declared.parts.End.{End}
use Rattle.gic_model.specs.declared.parts.End.TheVariants.{Node, Earth}
use Rattle.gic_model.specs.Standing.{value_at}

pub value_sum : (x y : ℕ → ℤ) (t : End) → value_at (λ m. x m +ℤ y m) t ≡ value_at x t +ℤ value_at y t
value_sum x y (Node m) = refl
value_sum x y Earth = refl

pub value_times : (a : ℤ) (x : ℕ → ℤ) (t : End) → value_at (λ m. a *ℤ x m) t ≡ a *ℤ value_at x t
value_times a x (Node m) = refl
value_times a x Earth = sym (*ℤ-zero a)
