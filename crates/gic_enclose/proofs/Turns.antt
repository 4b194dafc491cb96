-- What is left after some turns of a phase.
use Rattle.std.proofs.Common.{◌≡◌, ℕ, suc, ◌+◌, ◌-◌, ◌*◌, ◌^◌, ◌<◌, ◌≤◌, arith, ap, mul-le-mul_right}

abbrev pub left : ℕ → ℕ → ℕ
left phase turn = 8192 * 2 ^ (98 - phase) - turn * 2 ^ (97 - phase)

twice : (phase : ℕ) → phase < 98 → 2 ^ (98 - phase) ≡ 2 * 2 ^ (97 - phase)
twice phase h = let e : 98 - phase ≡ suc (97 - phase) = omega arith in omega (arith, ap (λ n. 2 ^ n) e)

pub space : (phase turn : ℕ) → phase < 98 → turn < 8192 → 8192 * 2 ^ (97 - phase) ≤ left phase turn
space phase turn h t =
    let most : turn * 2 ^ (97 - phase) ≤ 8191 * 2 ^ (97 - phase) = mul-le-mul_right (2 ^ (97 - phase)) (omega arith) in
    omega (arith, twice phase h, most)

pub less : (phase turn : ℕ) → phase < 98 → turn < 8192 → left phase turn - 2 ^ (97 - phase) ≡ left phase (turn + 1)
less phase turn h t = omega (arith, twice phase h, space phase turn h t)

pub phase_done : (phase turn : ℕ) → phase < 98 → turn ≡ 8192 → left phase turn ≡ 8192 * 2 ^ (98 - (phase + 1))
phase_done phase turn h e =
    let same : 98 - (phase + 1) ≡ 97 - phase = omega arith in
    omega (arith, twice phase h, ap (λ n. n * 2 ^ (97 - phase)) e, ap (λ n. 2 ^ n) same)

pub phase_begins : (phase : ℕ) → 8192 * 2 ^ (98 - phase) ≡ left phase 0
phase_begins phase = omega arith
