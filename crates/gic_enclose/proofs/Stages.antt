-- Stages of sweeps.
use Rattle.std.proofs.Common.{◌≡◌, ℕ, zero, suc, ◌+◌, ◌-◌, ◌*◌, ◌^◌, ◌≤◌, refl, arith, mul-le-mul_right, subst₂}

-- A bound x at place n that falls by y wherever it is at least 8192 * y falls to 8192 within j stages of 8192 places
module _ (close_at : ℕ → ℕ → Type 0) (next : (x y n : ℕ) → 8192 * y ≤ x → close_at x n → close_at (x - y) (n + 1)) where
  moved : (x x' n n' : ℕ) → x ≡ x' → n ≡ n' → close_at x n → close_at x' n'
  moved x x' n n' e f c = subst₂ close_at e f c

  part_of_stage : (j n m : ℕ) → m ≤ 8192 → close_at (8192 * 2 ^ suc j) n → close_at (8192 * 2 ^ suc j - m * 2 ^ j) (n + m)
  part_of_stage j n zero h c = moved (8192 * 2 ^ suc j) _ n _ (omega arith) (omega arith) c
  part_of_stage j n (suc m) h c =
      let p = 2 ^ j in
      let most : m * p ≤ 8192 * p = mul-le-mul_right p (omega arith) in
      let before : close_at (8192 * 2 ^ suc j - m * 2 ^ j) (n + m) = part_of_stage j n m (omega arith) c in
      moved (8192 * 2 ^ suc j - m * 2 ^ j - p) _ (n + m + 1) _ (omega arith) (omega arith) (next (8192 * 2 ^ suc j - m * 2 ^ j) p (n + m) (omega arith) before)

  pub stages : (j n : ℕ) → close_at (8192 * 2 ^ j) n → close_at 8192 (n + j * 8192)
  stages zero n c = moved (8192 * 2 ^ 0) 8192 n _ refl (omega arith) c
  stages (suc j) n c =
      let whole = part_of_stage j n 8192 (omega arith) c in
      let half : close_at (8192 * 2 ^ j) (n + 8192) = moved (8192 * 2 ^ suc j - 8192 * 2 ^ j) (8192 * 2 ^ j) (n + 8192) (n + 8192) (omega arith) refl whole in
      moved 8192 8192 (n + 8192 + j * 8192) _ refl (omega arith) (stages j (n + 8192) half)
