use Rattle.std.proofs.Common.{arith, ◌≡◌, ◌∙◌, length}
use Rattle.gic_model.specs.Guess.{diagonal, residual_down, residual_up}
use Rattle.gic_model.specs.Voltages.{number_at}
use Rattle.gic_net.specs.Net.{standing}
use Rattle.gic_sweep.specs.Passes.{part_down, part_up}
use Rattle.gic_sweep.proofs.NodeSums.{diagonal_most}
use Rattle.gic_sweep.proofs.Carried.{begun, begun_small, ended}
use Rattle.gic_sweep.proofs.passing.residuals_into.Goals as goal

pub loop-place-init : goal.loop-place-init
loop-place-init c =
    let net = c.args.net.now in
    let v = number_at c.args.volts.now in
    let x = number_at c.args.guesses.now in
    record {
      low_count = omega (arith, c.clear.ensures.same_length, c.requires.low_count);
      high_count = omega (arith, c.clear-2.ensures.same_length, c.requires.high_count);
      low = λ k. begun (number_at c.clear.new.sums k) (residual_down (standing net) v x k) (c.clear.ensures.sums k);
      high = λ k. begun (number_at c.clear-2.new.sums k) (residual_up (standing net) v x k) (c.clear-2.ensures.sums k);
      low_small = λ k. begun_small (number_at c.clear.new.sums k) (diagonal (standing net) k) (c.clear.ensures.sums k);
      high_small = λ k. begun_small (number_at c.clear-2.new.sums k) (diagonal (standing net) k) (c.clear-2.ensures.sums k);
    }

pub add_element-requires-clause-low_space : goal.add_element-requires-clause-low_space
add_element-requires-clause-low_space c = λ k h.
    let most = diagonal_most c.args.net.now k c.within_limits.ensures (omega (arith, h, c.loop-place.invariant.low_count)) in
    let small = c.loop-place.invariant.low_small k in
    omega (arith, most, small)

pub add_element-requires-clause-high_space : goal.add_element-requires-clause-high_space
add_element-requires-clause-high_space c = λ k h.
    let most = diagonal_most c.args.net.now k c.within_limits.ensures (omega (arith, h, c.loop-place.invariant.high_count)) in
    let small = c.loop-place.invariant.high_small k in
    omega (arith, most, small)

pub loop-place-preserved : goal.loop-place-preserved
loop-place-preserved c =
    let i = c.loop-place.invariant in
    let low = c.add_element.ensures.low in
    let high = c.add_element.ensures.high in
    record {
      low_count = low.count ∙ i.low_count;
      high_count = high.count ∙ i.high_count;
      low = λ k. low.sums k ∙ i.low k;
      high = λ k. high.sums k ∙ i.high k;
      low_small = λ k. let a = low.small k in let b = i.low_small k in omega (arith, a, b);
      high_small = λ k. let a = high.small k in let b = i.high_small k in omega (arith, a, b);
    }

pub returns : goal.returns
returns c =
    let net = c.args.net.now in
    let v = number_at c.args.volts.now in
    let x = number_at c.args.guesses.now in
    let i = c.loop-place.invariant in
    let n = c.loop-place.place in
    let end : n ≡ length net.network.list = omega (arith, c.loop-place-test.false, c.loop-place.auto.place-end, c.count-place-end.ensures.value) in
    record {
      low_count = i.low_count;
      high_count = i.high_count;
      low = λ k. ended net n k (part_down v x k) (number_at c.loop-place.low k) (residual_down (standing net) v x k) end (i.low k);
      high = λ k. ended net n k (part_up v x k) (number_at c.loop-place.high k) (residual_up (standing net) v x k) end (i.high k);
      small = λ k. record {
        low = let a = i.low_small k in omega (arith, a);
        high = let a = i.high_small k in omega (arith, a);
      };
    }
