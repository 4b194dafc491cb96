use Rattle.std.proofs.Common.{List, ℕ, slice_index, arith, sym, subst, ◌∙◌, rules}
use Rattle.gic_model.specs.Bound.{IsCappedVector}
use Rattle.gic_model.proofs.Ends.{standing_within}
use Rattle.gic_net.specs.Net.{standing, stands}
use Rattle.gic_bound.specs.Starting.{IsSunk}
use Rattle.gic_bound.proofs.Held.{sunk_capped, sunk_least}
use Rattle.gic_bound.proofs.raising.sink.Goals as goal

pub loop-preserved : goal.loop-preserved
loop-preserved c =
    let net = c.args.net.now in
    let capped = sunk_capped net.network.nodes (standing net) (standing_within net.network (stands net) c.within_limits.ensures) c.loop.step (slice_index c.loop.out) (slice_index c.sinks_to_itself.new.other) c.loop.invariant.capped c.sinks_to_itself.ensures.sunk.itself in
    record {
      count = search rules;
      other = c.sinks_to_itself.ensures.same_length ∙ c.loop.invariant.other;
      capped = subst (λ (xs : List ℕ). IsCappedVector (standing net) (slice_index xs)) (sym c.copy_from.ensures) capped;
      some = omega arith;
      few = omega arith;
    }

pub returns-then-sinks_to_itself-clause-least : goal.returns-then-sinks_to_itself-clause-least
returns-then-sinks_to_itself-clause-least c =
    let net = c.args.net.now in
    let same = c.sinks_to_itself.ensures.same.0 c.if-sinks_to_itself.true in
    sunk_least net.network.nodes (standing net) (standing_within net.network (stands net) c.within_limits.ensures) c.loop.step (slice_index c.loop.out) c.loop.invariant.some c.loop.invariant.capped
    (subst (λ (xs : List ℕ). IsSunk (standing net) c.loop.step (slice_index c.loop.out) (slice_index xs)) same c.sinks_to_itself.ensures.sunk)
