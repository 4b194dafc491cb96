use Rattle.std.proofs.Common.{◌≡◌, ℕ, ℤ, List, length, ◌-◌, ◌*◌, ◌^◌, slice_index, subst, sym, arith, ap}
use Rattle.gic_sweep.specs.Sweep.{IsSweep}
use Rattle.gic_model.specs.Voltages.{number_at}
use Rattle.gic_model.specs.Guess.{IsSettled}
use Rattle.gic_net.specs.Net.{standing, stands}
use Rattle.gic_enclose.specs.Near.{AreNearGuesses}
use Rattle.gic_enclose.proofs.Turns.{left, space, less, phase_done}
use Rattle.gic_enclose.proofs.settling.settle_wide.Goals as goal

pub loop-phase-init : goal.loop-phase-init
loop-phase-init g c =
    let net = c.args.net.now in
    let x = number_at c.improve.new.solver in
    let driven = c.requires.can.driven in
    record {
      near = (driven.potential, driven.are_rough, x, c.sweeps_converge_law.ensures.first net.network (stands net) (number_at c.args.volts.now) driven.potential x (number_at c.sweep.new.solver) (slice_index c.args.bound.now) c.within_limits.ensures c.requires.can.bound driven.are_rough c.within_limit.ensures c.sweep.ensures.sweep);
      same_length = omega (arith, c.sweep.ensures.same_length, c.improve.ensures.same_length);
      ticks = omega (arith, c.sweep.ensures.tick, c.improve.ensures.tick, c.improve.ensures.few_rounds);
    }

pub loop-turn-preserved : goal.loop-turn-preserved
loop-turn-preserved g c =
    let net = c.args.net.now in
    let v = slice_index c.args.bound.now in
    let volts = number_at c.args.volts.now in
    let y = number_at c.loop-turn.solver in
    let z = number_at c.sweep-in-loop-turn.new.solver in
    let phase = c.loop-phase.phase in
    let turn = c.loop-turn.turn in
    let i = c.loop-turn.invariant in
    let swept : IsSweep (standing net) volts y z = subst (λ (g : List ℤ). IsSweep (standing net) volts (number_at g) z) c.is_seen_settled.ensures.same c.sweep-in-loop-turn.ensures.sweep in
    let potential = i.near.0 in
    let next = c.sweeps_converge_law.ensures.next net.network (stands net) volts potential i.near.2 y z v (left phase turn) (2 ^ (97 - phase)) c.within_limits.ensures c.requires.can.bound i.near.1
    (space phase turn c.loop-phase-test.true c.loop-turn-test.true) i.near.3 swept in
    record {
      near = (potential, i.near.1, y, subst (λ (n : ℕ). AreNearGuesses (standing net) volts potential v n y z) (less phase turn c.loop-phase-test.true c.loop-turn-test.true) next);
      same_length = omega (arith, c.sweep-in-loop-turn.ensures.same_length, ap length c.is_seen_settled.ensures.same, i.same_length);
      ticks = omega (arith, c.sweep-in-loop-turn.ensures.tick, i.ticks);
    }

pub loop-phase-preserved : goal.loop-phase-preserved
loop-phase-preserved g c =
    let net = c.args.net.now in
    let v = slice_index c.args.bound.now in
    let volts = number_at c.args.volts.now in
    let i = c.loop-turn.invariant in
    let end : c.loop-turn.turn ≡ 8192 = omega (arith, c.loop-turn-test.false, c.loop-turn.auto.turn-end) in
    let done = phase_done c.loop-phase.phase c.loop-turn.turn c.loop-phase-test.true end in
    record {
      near = (i.near.0, i.near.1, i.near.2, subst (λ (n : ℕ). AreNearGuesses (standing net) volts i.near.0 v n i.near.2 (number_at c.loop-turn.solver)) done i.near.3);
      same_length = i.same_length;
      ticks = omega (arith, i.ticks, end);
    }

pub returns-clause-settled : goal.returns-clause-settled
returns-clause-settled g c =
    let net = c.args.net.now in
    let v = slice_index c.args.bound.now in
    let volts = number_at c.args.volts.now in
    let i = c.loop-phase.invariant in
    let y = number_at c.loop-phase.solver in
    let last : c.loop-phase.phase ≡ 98 = omega (arith, c.loop-phase-test.false, c.loop-phase.auto.phase-end) in
    let one : 8192 * 2 ^ (98 - c.loop-phase.phase) ≡ 8192 = ap (λ n. 8192 * 2 ^ (98 - n)) last in
    let potential = i.near.0 in
    let near : AreNearGuesses (standing net) volts potential v 8192 i.near.2 y = subst (λ (n : ℕ). AreNearGuesses (standing net) volts potential v n i.near.2 y) one i.near.3 in
    c.sweeps_converge_law.ensures.last net.network (stands net) volts potential i.near.2 y v c.within_limits.ensures c.requires.can.bound i.near.1 near

pub returns-then-is_seen_settled-clause-settled : goal.returns-then-is_seen_settled-clause-settled
returns-then-is_seen_settled-clause-settled g c =
    subst (λ (xs : List ℤ). IsSettled (standing c.args.net.now) (number_at c.args.volts.now) (number_at xs)) (sym c.is_seen_settled.ensures.same) (c.is_seen_settled.ensures.settled c.if-is_seen_settled.true)
