-- Quotients rounded up.
use Rattle.std.proofs.Common.{ℕ, ◌+◌, ◌*◌, ◌/◌, ◌%◌, ◌<◌, ◌≤◌, arith, div-add-mod', mul-le-mul_right, le_of_mul-le-mul_right, ⊎_elim}
use Rattle.std.specs.Int.{div_ceil}
use Rattle.std.proofs.lemmas.Bool.{cases_lt}
use Rattle.std.proofs.lemmas.Grind.{div_ceil_times}

pub whole_most : (m g c : ℕ) → 0 < g → m ≤ g * c → m / g ≤ c
whole_most m g c some h = le_of_mul-le-mul_right {k = g} (omega (arith, h, div-add-mod' m g)) some

-- 4096 m / g, rounded up in two parts
pub least_up : (m g c : ℕ) → 0 < g → 4096 * m ≤ c * g → 4096 * (m / g) + div_ceil (4096 * (m % g)) g ≤ c
least_up m g c some h =
    let t = 4096 * (m / g) + div_ceil (4096 * (m % g)) g in
    ⊎_elim
    (λ more.
    let times : (c + 1) * g ≤ t * g = mul-le-mul_right g (omega (arith, more)) in
    absurd (omega (arith, times, h, (div_ceil_times (4096 * (m % g)) g some).1, div-add-mod' m g)))
    (λ less. less)
    (cases_lt c t)
