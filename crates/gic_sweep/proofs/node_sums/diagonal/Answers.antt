use Rattle.std.proofs.Common.{◌≡◌, ◌<◌, length, arith, ap, ◌∙◌, ℕ, take}
use Rattle.std.specs.List.{sum_by}
use Rattle.std.proofs.Math.Seq.{take-length}
use Rattle.gic_model.specs.Guess.{diagonal}
use Rattle.gic_net.specs.Net.{row_at, element_of, standing}
use Rattle.gic_sweep.proofs.NodeSums.{diagonal_part, part_more, diagonal_most, diagonal_some}
use Rattle.gic_sweep.proofs.node_sums.diagonal.Goals as goal

pub overflow_add-sum : goal.overflow_add-sum
overflow_add-sum c =
    let net = c.args.net.now in
    let k = c.args.node.0 in
    let h : c.loop-place.place < length (row_at net k) = omega (arith, c.loop-place-test.true, c.degree-place-end.ensures.value) in
    let id = c.element_at-id.result.0 in
    let d = part_more diagonal_part net k c.loop-place.place h id (element_of net.network id) c.element_at-id.ensures.value in
    let most = diagonal_most net k c.within_limits.ensures c.requires.node in
    record { fits = omega (arith, d.1, most, c.loop-place.invariant, c.conductance_up-part.ensures) }

pub loop-place-preserved : goal.loop-place-preserved
loop-place-preserved c =
    let net = c.args.net.now in
    let k = c.args.node.0 in
    let h : c.loop-place.place < length (row_at net k) = omega (arith, c.loop-place-test.true, c.degree-place-end.ensures.value) in
    let id = c.element_at-id.result.0 in
    let d = part_more diagonal_part net k c.loop-place.place h id (element_of net.network id) c.element_at-id.ensures.value in
    omega (arith, d.0, c.loop-place.invariant, c.conductance_up-part.ensures)

pub returns : goal.returns
returns c =
    let net = c.args.net.now in
    let k = c.args.node.0 in
    let end : c.loop-place.place ≡ length (row_at net k) = omega (arith, c.loop-place-test.false, c.loop-place.auto.place-end, c.degree-place-end.ensures.value) in
    let all : take c.loop-place.place (row_at net k) ≡ row_at net k = ap (λ (n : ℕ). take n (row_at net k)) end ∙ take-length (row_at net k) in
    let value : c.loop-place.sum ≡ diagonal (standing net) k = c.loop-place.invariant ∙ ap (sum_by diagonal_part) all in
    record {
      value = value;
      most = omega (arith, value, diagonal_most net k c.within_limits.ensures c.requires.node);
      live = λ live. omega (arith, value, diagonal_some net k c.within_limits.ensures live);
    }
