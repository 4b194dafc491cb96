use Rattle.std.proofs.Common.{◌≡◌, ℕ, ◌+◌, ◌^◌, ◌<◌, List, length, slice_set, slice_index, arith, ap, sym, subst, ◌∙◌, ⊎_elim}
use Rattle.std.proofs.lemmas.Bool.{cases_lt, cases_eq}
use Rattle.std.proofs.lemmas.List.{get_or_past, get_or-set_same, get_or-set_other, length-set}
use Rattle.gic_model.specs.Bound.{IsEarthedWithin}
use Rattle.gic_model.specs.Voltages.{number_at}
use Rattle.gic_model.proofs.Ends.{live_within, standing_within}
use Rattle.gic_net.specs.Net.{standing, stands}
use Rattle.gic_fixed.specs.Ends.{Ends, zero_ends, ends_of}
use Rattle.gic_enclose.specs.Ends.{potential_ends}
use Rattle.gic_enclose.specs.Round.{IsRoundGuess}
use Rattle.gic_enclose.proofs.Rounds.{certain_round, narrow_round, tight_round, middle_round}
use Rattle.gic_enclose.proofs.enclosing.enclose_wide.Goals as goal

-- what holds below a place holds below the next one, where the interval there was set
next_place : (P : ℕ → Ends → Type 0) (old new : List Ends) (n : ℕ) (ends : Ends) → new ≡ slice_set old n ends → n < length old
    → ((k : ℕ) → k < n → P k (potential_ends old k)) → P n ends → (k : ℕ) → k < n + 1 → P k (potential_ends new k)
next_place P old new n ends is inside before here k less =
    ⊎_elim
    (λ same. subst (λ (m : ℕ). P m (potential_ends new m)) (sym same) (subst (P n) (sym (ap (λ (xs : List Ends). potential_ends xs n) is ∙ get_or-set_same old n ends zero_ends inside)) here))
    (λ other. subst (P k) (sym (ap (λ (xs : List Ends). potential_ends xs k) is ∙ get_or-set_other old n k ends zero_ends other)) (before k (omega (arith, less, other))))
    (cases_eq k n)

pub loop-node-preserved : goal.loop-node-preserved
loop-node-preserved c =
    let i = c.loop-node.invariant in
    let old = c.loop-node.out in
    let n = c.loop-node.node in
    let ends = ends_of c.interval_at.result in
    let inside : n < length old = omega (arith, c.loop-node-test.true, c.loop-node.auto.node-end, c.nodes-node-end.ensures.value, i.same_length, c.requires.together.interval_count) in
    record {
      round = next_place (λ k e. IsRoundGuess (standing c.args.net.now) (number_at c.args.solver.now) (slice_index c.args.bound.now) c.reach-reach.result k e) old c.set.new.self n ends c.set.ensures inside i.round c.interval_at.ensures.round;
      same_length = ap length c.set.ensures ∙ length-set old n ends ∙ i.same_length;
    }

-- behind the nodes all is dead, and no interval stands there
rounds : (c : goal.After-loop-node) (k : ℕ) → IsRoundGuess (standing c.args.net.now) (number_at c.args.solver.now) (slice_index c.args.bound.now) c.reach-reach.result k (potential_ends c.loop-node.out k)
rounds c k =
    let net = c.args.net.now in
    let i = c.loop-node.invariant in
    let end = c.nodes-node-end.ensures.value in
    let within = standing_within net.network (stands net) c.within_limits.ensures in
    ⊎_elim
    (λ inside. i.round k (omega (arith, inside, end, c.loop-node-test.false, c.loop-node.auto.node-end)))
    (λ past. record {
      low = λ live. absurd (omega (arith, past, live_within net.network.nodes (standing net) k within live));
      high = λ live. absurd (omega (arith, past, live_within net.network.nodes (standing net) k within live));
      dead = λ none. get_or_past c.loop-node.out k zero_ends (omega (arith, past, i.same_length, c.requires.together.interval_count));
    })
    (cases_lt k net.network.nodes)

pub returns-clause-certain : goal.returns-clause-certain
returns-clause-certain c k =
    let net = c.args.net.now in
    let volts = number_at c.args.volts.now in
    let x = number_at c.args.solver.now in
    let v = slice_index c.args.bound.now in
    let limits = c.within_limits.ensures in
    let bound = c.requires.can.bound in
    let earthed : IsEarthedWithin (standing net) 4096 = record { entries = v; bound = bound.bound; none_above = bound.none_above } in
    certain_round (standing net) volts x v c.reach-reach.result k (potential_ends c.loop-node.out k) (rounds c k)
    (λ s solves live. (
      c.certificate_law.ensures net.network (stands net) volts x s v c.reach-reach.result k limits solves bound.bound c.reach-reach.ensures.settled live,
      c.drive_law.ensures.below net.network (stands net) volts s k limits earthed c.requires.can.driven solves live,
    ))

pub returns-clause-narrow : goal.returns-clause-narrow
returns-clause-narrow c settled k =
    let close = c.reach-reach.ensures.close (2 ^ 29) settled in
    narrow_round (standing c.args.net.now) (number_at c.args.solver.now) (slice_index c.args.bound.now) c.reach-reach.result k (potential_ends c.loop-node.out k) (rounds c k) (c.requires.can.bound.none_above k) (omega (arith, close))

pub returns-clause-tight : goal.returns-clause-tight
returns-clause-tight c settled k =
    let close = c.reach-reach.ensures.close (2 ^ 18) settled in
    tight_round (standing c.args.net.now) (number_at c.args.solver.now) (slice_index c.args.bound.now) c.reach-reach.result k (potential_ends c.loop-node.out k) (rounds c k) (c.requires.can.bound.none_above k) (omega (arith, close))

pub returns-clause-middle : goal.returns-clause-middle
returns-clause-middle c settled k live small =
    let close = c.reach-reach.ensures.close (2 ^ 29) settled in
    middle_round (standing c.args.net.now) (number_at c.args.solver.now) (slice_index c.args.bound.now) c.reach-reach.result k (potential_ends c.loop-node.out k) (rounds c k) (c.requires.can.bound.none_above k) (omega (arith, close)) live small
