use Rattle.std.proofs.Common.{◌≤◌, ℕ, ℤ, pos, ◌≤ℤ◌, arith}
use Rattle.gic_fixed.proofs.Integers.{linear}
use Rattle.gic_model.proofs.laws.sharp_law.Goals as goal

wider_than : (z : ℤ) (a b : ℕ) → z ≤ℤ pos a → a ≤ b → z ≤ℤ pos b
wider_than z a b h k = omega (arith, linear)

pub returns : goal.returns
returns c standing volts low high width wider sharp more = record {
  nodes = λ k live. wider_than _ width wider (sharp.nodes k live) more;
  elements = λ k d below. wider_than _ width wider (sharp.elements k d below) more;
}
