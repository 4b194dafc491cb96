use Rattle.std.proofs.Common.{◌≡◌, ◌≤◌, ◌<◌, ◌*◌, ◌+◌, ◌-◌, take, ℕ, List, arith, get_or, length}
use Rattle.std.specs.Str.Parse.{AllDigits, digits_value}
use Rattle.gic_text.proofs.Digits.{byte_of, prefix_small, value_more}
use Rattle.gic_text.proofs.decimal.value_of.Goals as goal

-- with one more digit the number stays below 10^38
next_small : (text : List ℕ) (i value : ℕ) → AllDigits 10 text → length text ≤ 38 → i < length text → value ≡ digits_value 10 (take i text) →
    value * 10 + (get_or text i 0 - 48) < 100000000000000000000000000000000000000
next_small text i value all few within is =
    let small = prefix_small 38 text (i + 1) all few in
    let more = value_more text i all within in
    omega arith

pub overflow_sub-byte : goal.overflow_sub-byte
overflow_sub-byte c =
    let byte = byte_of c.args.text.now c.loop-byte.byte-index c.requires.digits c.loop-byte-test.true in
    omega arith

pub overflow_mul-value : goal.overflow_mul-value
overflow_mul-value c =
    let small = next_small c.args.text.now c.loop-byte.byte-index c.loop-byte.value c.requires.digits c.requires.few c.loop-byte-test.true c.loop-byte.invariant in
    omega arith

pub overflow_add-value : goal.overflow_add-value
overflow_add-value c =
    let small = next_small c.args.text.now c.loop-byte.byte-index c.loop-byte.value c.requires.digits c.requires.few c.loop-byte-test.true c.loop-byte.invariant in
    omega arith

pub loop-byte-preserved : goal.loop-byte-preserved
loop-byte-preserved c =
    let more = value_more c.args.text.now c.loop-byte.byte-index c.requires.digits c.loop-byte-test.true in
    omega (arith, c.loop-byte.invariant)

pub returns-clause-small : goal.returns-clause-small
returns-clause-small c =
    let small = prefix_small 38 c.args.text.now c.loop-byte.byte-index c.requires.digits c.requires.few in
    omega (arith, c.loop-byte.invariant)
