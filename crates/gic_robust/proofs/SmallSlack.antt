-- In every case the slack moves no end by more than nine milliamperes.
use Rattle.std.proofs.Common.{ℕ, ◌+◌, ◌*◌, ◌/◌, ◌<◌, ◌≤◌, List, length, ℤ, arith}
use Rattle.std.proofs.Math.Nat.{mul-le-mul, mul-le-mul_left, mul-le-mul_right, lt-mul-div-succ}
use Rattle.gic_fixed.proofs.Divisions.{positive_product}
use Rattle.gic_model.specs.Sums.{Placed}
use Rattle.gic_varied.specs.Near.{slack, current_unit}
use Rattle.gic_varied.specs.Sizes.{volt_sum, sizes_of_sums}
use Rattle.gic_varied.specs.Grounds.{grounds_among}
use Rattle.gic_grounds.specs.Scale.{most_weight_volts, weight_times, units_of}

-- over plain numbers, m being the multiple of the weights at the high voltage h where a unit of potentials is u nanovolts
slack_small : (h u m field weights grounds : ℕ) → h ≤ 2000000 → u ≤ 20 → 96000000000000000 < h * (2 * u) * (m + 1) →
    field ≤ 3000 * (24576 * 60000000000000) → weights ≤ 9000 * (m * (2 * u) * h) → grounds ≤ 65536 →
    3 * h * m * (2 * u) * (grounds + 401) + (86 * u * weights + (84 * 2 * field + 86 * 2 * u * (3000 * grounds))) ≤ 9000000 * (3 * h * m * (2 * u))
slack_small h u m field weights grounds few small above driven weighed count =
    let in_units : u * grounds ≤ 20 * 65536 = mul-le-mul small count in
    let in_weights : u * weights ≤ 20 * weights = mul-le-mul_right weights small in
    let volts : h * u ≤ 2000000 * 20 = mul-le-mul few small in
    let each : h * m * u * grounds ≤ h * m * u * 65536 = mul-le-mul_left (h * m * u) count in
    omega (arith, above, driven, weighed, in_units, in_weights, volts, each)

-- so it is with what the voltages of a field and of a transformer's weights add up to
pub small_slack : (standing : List Placed) (volts weights : ℕ → ℤ) (h u : ℕ) → 0 < h → h ≤ 2000000 → 0 < u → u ≤ 20 →
    volt_sum standing volts ≤ 24576 * 60000000000000 → volt_sum standing weights ≤ 3 * (weight_times h u * h) → length (grounds_among standing) ≤ 65536 →
    slack (units_of h u) (sizes_of_sums standing volts weights) ≤ 9000000 * current_unit (units_of h u)
small_slack standing volts weights h u some few above small driven weighed count =
    let m = most_weight_volts / (h * (2 * u)) in
    slack_small h u m (3000 * volt_sum standing volts) (3000 * volt_sum standing weights) (length (grounds_among standing)) few small
    (lt-mul-div-succ most_weight_volts (positive_product h (2 * u) some (omega (arith, above))))
    (omega (arith, driven)) (omega (arith, weighed)) count
