use Rattle.std.proofs.Common.{◌≡◌, ◌+◌, ℤ, ◌+ℤ◌, drop, get_or, ap, ◌∙◌, arith}
use Rattle.std.proofs.lemmas.Int.{ints, fits_signed_from_abs}
use Rattle.std.specs.Int.{w128}
use Rattle.std.specs.List.{enumerate_from}
use Rattle.gic_fixed.specs.Ends.{Ends}
use Rattle.gic_fixed.specs.Sums.{sum_of}
use Rattle.gic_monitor.specs.LossText.{unit_loss}
use Rattle.gic_monitor.proofs.UnitSums.{sum_next}
use Rattle.gic_monitor.proofs.loss.total.sum_of_losses.Goals as goal

pub add-total-requires-clause-low : goal.add-total-requires-clause-low
add-total-requires-clause-low c =
    fits_signed_from_abs w128 (c.loop-unit.total.lo +ℤ c.unit_loss.result.lo)
    (omega (arith, ints, c.loop-unit.total.ordered, c.unit_loss.result.ordered, c.unit_loss.ensures.least, c.unit_loss.ensures.most))

pub add-total-requires-clause-high : goal.add-total-requires-clause-high
add-total-requires-clause-high c =
    fits_signed_from_abs w128 (c.loop-unit.total.hi +ℤ c.unit_loss.result.hi)
    (omega (arith, ints, c.loop-unit.total.ordered, c.unit_loss.result.ordered, c.unit_loss.ensures.least, c.unit_loss.ensures.most))

pub loop-unit-preserved : goal.loop-unit-preserved
loop-unit-preserved c =
    let factors = c.args.factors.now in
    let view = c.args.view.now in
    let unit = c.loop-unit.unit in
    let low : c.unit_loss.result.lo ≡ (unit_loss view (unit, get_or factors unit 0)).low = ap (λ (e : Ends). e.low) c.unit_loss.ensures.value in
    let high : c.unit_loss.result.hi ≡ (unit_loss view (unit, get_or factors unit 0)).high = ap (λ (e : Ends). e.high) c.unit_loss.ensures.value in
    record {
      low =
          ap (λ (z : ℤ). z +ℤ sum_of (λ u. (unit_loss view u).low) (enumerate_from (unit + 1) (drop (unit + 1) factors)))
          (c.add-total.ensures.low ∙ ap (λ (z : ℤ). c.loop-unit.total.lo +ℤ z) low)
          ∙ sum_next (λ u. (unit_loss view u).low) factors unit c.loop-unit.total.lo c.loop-unit-test.true
          ∙ c.loop-unit.invariant.low;
      high =
          ap (λ (z : ℤ). z +ℤ sum_of (λ u. (unit_loss view u).high) (enumerate_from (unit + 1) (drop (unit + 1) factors)))
          (c.add-total.ensures.high ∙ ap (λ (z : ℤ). c.loop-unit.total.hi +ℤ z) high)
          ∙ sum_next (λ u. (unit_loss view u).high) factors unit c.loop-unit.total.hi c.loop-unit-test.true
          ∙ c.loop-unit.invariant.high;
      least = omega (arith, ints, c.add-total.ensures.low, c.loop-unit.invariant.least, c.unit_loss.ensures.least);
      most = omega (arith, ints, c.add-total.ensures.high, c.loop-unit.invariant.most, c.unit_loss.ensures.most);
    }
