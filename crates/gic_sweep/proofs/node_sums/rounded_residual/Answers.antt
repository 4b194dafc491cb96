use Rattle.std.proofs.Common.{◌≡◌, ◌+◌, ◌*◌, ◌^◌, ◌<◌, ℕ, List, take, length, pos, arith, ap, sym, subst, ◌∙◌}
use Rattle.std.proofs.Math.Seq.{take-length}
use Rattle.std.specs.List.{sum_by}
use Rattle.gic_fixed.specs.Encloses.{IsWithin}
use Rattle.gic_fixed.specs.Rounding.{floor_div, ceil_div}
use Rattle.gic_model.specs.declared.parts.Element.{Element}
use Rattle.gic_model.specs.Guess.{diagonal, part_times_ohms}
use Rattle.gic_model.specs.Sums.{Placed, sum_of}
use Rattle.gic_model.specs.Voltages.{number_at}
use Rattle.gic_net.specs.Net.{standing, row_at, placed_at}
use Rattle.gic_sweep.proofs.NodeSums.{diagonal_part, part_more, diagonal_most, sum_more, sum_fits, sum_small}
use Rattle.gic_sweep.proofs.node_sums.rounded_residual.Goals as goal

pub add-sum-requires : goal.add-sum-requires
add-sum-requires c =
    let net = c.args.net.now in
    let k = c.args.node.0 in
    let i = c.loop-place.place in
    let h : i < length (row_at net k) = omega (arith, c.loop-place-test.true, c.degree-place-end.ensures.value) in
    let id = c.element_at-id.result.0 in
    let e = c.element-element.result in
    let is : placed_at net k i ≡ (id, e) = c.element_at-id.ensures.value ∙ ap (λ (x : Element). (id, x)) (sym c.element-element.ensures.value) in
    let d = part_more diagonal_part net k i h id e is in
    let most = diagonal_most net k c.within_limits.ensures c.requires.node in
    let before = sum_by diagonal_part (take i (row_at net k)) in
    let small = c.loop-place.invariant.small in
    let part = c.current.ensures.small in
    record {
      low = sum_fits c.loop-place.sum.lo c.current.result.lo before (diagonal_part (id, e)) (diagonal (standing net) k) small.low part.low d.1 most;
      high = sum_fits c.loop-place.sum.hi c.current.result.hi before (diagonal_part (id, e)) (diagonal (standing net) k) small.high part.high d.1 most;
    }

pub loop-place-preserved : goal.loop-place-preserved
loop-place-preserved c =
    let net = c.args.net.now in
    let k = c.args.node.0 in
    let v = number_at c.args.volts.now in
    let x = number_at c.args.guesses.now in
    let i = c.loop-place.place in
    let h : i < length (row_at net k) = omega (arith, c.loop-place-test.true, c.degree-place-end.ensures.value) in
    let id = c.element_at-id.result.0 in
    let e = c.element-element.result in
    let is : placed_at net k i ≡ (id, e) = c.element_at-id.ensures.value ∙ ap (λ (x : Element). (id, x)) (sym c.element-element.ensures.value) in
    let d = part_more diagonal_part net k i h id e is in
    let before = sum_by diagonal_part (take i (row_at net k)) in
    let after = sum_by diagonal_part (take (i + 1) (row_at net k)) in
    let small = c.loop-place.invariant.small in
    let part = c.current.ensures.small in
    record {
      low = sum_more (λ p. floor_div (part_times_ohms v x k p) (pos p.1.micro_ohm)) net k i h id e is c.loop-place.sum.lo c.current.result.lo c.add-sum.result.lo c.loop-place.invariant.low c.current.ensures.low c.add-sum.ensures.low;
      high = sum_more (λ p. ceil_div (part_times_ohms v x k p) (pos p.1.micro_ohm)) net k i h id e is c.loop-place.sum.hi c.current.result.hi c.add-sum.result.hi c.loop-place.invariant.high c.current.ensures.high c.add-sum.ensures.high;
      small = record {
        low = sum_small c.loop-place.sum.lo c.current.result.lo c.add-sum.result.lo before (diagonal_part (id, e)) after small.low part.low c.add-sum.ensures.low d.0;
        high = sum_small c.loop-place.sum.hi c.current.result.hi c.add-sum.result.hi before (diagonal_part (id, e)) after small.high part.high c.add-sum.ensures.high d.0;
      };
    }

pub returns : goal.returns
returns c =
    let net = c.args.net.now in
    let k = c.args.node.0 in
    let v = number_at c.args.volts.now in
    let x = number_at c.args.guesses.now in
    let i = c.loop-place.invariant in
    let end : c.loop-place.place ≡ length (row_at net k) = omega (arith, c.loop-place-test.false, c.loop-place.auto.place-end, c.degree-place-end.ensures.value) in
    let all : take c.loop-place.place (row_at net k) ≡ row_at net k = ap (λ (n : ℕ). take n (row_at net k)) end ∙ take-length (row_at net k) in
    record {
      low = i.low ∙ ap (sum_of (λ p. floor_div (part_times_ohms v x k p) (pos p.1.micro_ohm))) all;
      high = i.high ∙ ap (sum_of (λ p. ceil_div (part_times_ohms v x k p) (pos p.1.micro_ohm))) all;
      small = subst (λ (ps : List Placed). IsWithin (sum_by diagonal_part ps * 2 ^ 86) c.loop-place.sum.lo c.loop-place.sum.hi) all i.small;
    }
