-- The estimate of a digit by a reciprocal, and products in place of powers.
use Rattle.std.proofs.Common.{arith, ◌≡◌, ℕ, suc, ◌+◌, ◌*◌, ◌/◌, ◌^◌, ◌<◌, ◌≤◌, ◌-◌, ap, mul-le-mul}
use Rattle.std.proofs.lemmas.Nat.{div-add-mod'}
use Rattle.std.proofs.Math.Nat.{mul-le-mul_left, mul-le-mul_right, mul_assoc, lt-div-mul-add}

-- the estimate is not above the quotient
pub under : (n m d : ℕ) → m * d ≤ 2 ^ 64 → n * m / 2 ^ 64 * d ≤ n
under n m d h =
    let guess = n * m / 2 ^ 64 in
    let least : guess * 2 ^ 64 ≤ n * m = omega (arith, div-add-mod' (n * m) (2 ^ 64)) in
    let one : guess * 2 ^ 64 * d ≤ n * m * d = mul-le-mul_right d least in
    let two : n * (m * d) ≤ n * 2 ^ 64 = mul-le-mul_left n h in
    omega (arith, mul_assoc n m d)

-- n times 2^64 are n times the product and n times the slack
pub spread : (t m d s : ℕ) → m * d + s ≡ 2 ^ 64 → t * (m * d) + t * s ≡ t * 2 ^ 64
spread t m d s is = let each : t * (m * d + s) ≡ t * 2 ^ 64 = ap (λ k. t * k) is in omega (arith, each)

-- and of a number of 64 bits the quotient is at most one more
pub over : (n m d s : ℕ) → 0 < d → m * d + s ≡ 2 ^ 64 → s ≤ d → n < 2 ^ 64 → n < (n * m / 2 ^ 64) * d + 2 * d
over n m d s some is less few =
    let guess = n * m / 2 ^ 64 in
    let next : n * m ≤ guess * 2 ^ 64 + 2 ^ 64 = omega (arith, lt-div-mul-add {a = n * m} {b = 2 ^ 64} (omega arith)) in
    let one : n * m * d ≤ (guess * 2 ^ 64 + 2 ^ 64) * d = mul-le-mul_right d next in
    let two : n * s ≤ n * d = mul-le-mul_left n less in
    let three : n * d ≤ (2 ^ 64 - 1) * d = mul-le-mul_right d (omega (arith, few)) in
    omega (arith, mul_assoc n m d, spread n m d s is, one, two, three, some)

-- what is left above 2^64, with one slack more, has 64 bits
pub space : (t d s low : ℕ) → t < d → d < 2 ^ 32 → s ≤ d → low < 2 ^ 64 → t * s + low - 2 ^ 64 + s < 2 ^ 64
space t d s low few most less fits =
    let one : suc t * s ≤ d * d = mul-le-mul few less in
    let half : d ≤ 2 ^ 32 - 1 = omega (arith, most) in
    let two : d * d ≤ (2 ^ 32 - 1) * (2 ^ 32 - 1) = mul-le-mul half half in
    omega (arith, one, two, fits)
