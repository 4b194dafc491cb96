use Rattle.std.proofs.Common.{◌≡◌, ◌<◌, length, arith, ap, ◌∙◌, ℕ, take}
use Rattle.std.specs.List.{sum_by}
use Rattle.std.proofs.Math.Seq.{take-length}
use Rattle.gic_model.specs.Guess.{least_conductance}
use Rattle.gic_net.specs.Net.{row_at, element_of, standing}
use Rattle.gic_sweep.proofs.Conductances.{floor_part, conductance_most, conductance_some}
use Rattle.gic_sweep.proofs.node_sums.conductance.Goals as goal
use Rattle.gic_sweep.proofs.NodeSums.{part_more}

pub overflow_add-sum : goal.overflow_add-sum
overflow_add-sum c =
    let net = c.args.net.now in
    let k = c.args.node.0 in
    let h : c.loop-place.place < length (row_at net k) = omega (arith, c.loop-place-test.true, c.degree-place-end.ensures.value) in
    let id = c.element_at-id.result.0 in
    let more = part_more floor_part net k c.loop-place.place h id (element_of net.network id) c.element_at-id.ensures.value in
    let most = conductance_most net k c.within_limits.ensures c.requires in
    record { fits = omega (arith, more.1, most, c.loop-place.invariant, c.conductance-sum.ensures) }

pub loop-place-preserved : goal.loop-place-preserved
loop-place-preserved c =
    let net = c.args.net.now in
    let k = c.args.node.0 in
    let h : c.loop-place.place < length (row_at net k) = omega (arith, c.loop-place-test.true, c.degree-place-end.ensures.value) in
    let id = c.element_at-id.result.0 in
    let more = part_more floor_part net k c.loop-place.place h id (element_of net.network id) c.element_at-id.ensures.value in
    omega (arith, more.0, c.loop-place.invariant, c.conductance-sum.ensures)

pub returns : goal.returns
returns c =
    let net = c.args.net.now in
    let k = c.args.node.0 in
    let end : c.loop-place.place ≡ length (row_at net k) = omega (arith, c.loop-place-test.false, c.loop-place.auto.place-end, c.degree-place-end.ensures.value) in
    let all : take c.loop-place.place (row_at net k) ≡ row_at net k = ap (λ (n : ℕ). take n (row_at net k)) end ∙ take-length (row_at net k) in
    let value : c.loop-place.sum ≡ least_conductance (standing net) k = c.loop-place.invariant ∙ ap (sum_by floor_part) all in
    record {
      value = value;
      most = omega (arith, value, conductance_most net k c.within_limits.ensures c.requires);
      live = λ live. omega (arith, value, conductance_some net k c.within_limits.ensures live);
    }
