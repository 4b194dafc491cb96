use Rattle.std.proofs.Common.{List, ℕ, slice_index, arith, sym, subst}
use Rattle.gic_bound.specs.Caps.{cap_entry}
use Rattle.gic_model.proofs.Ends.{standing_within}
use Rattle.gic_net.specs.Net.{standing, stands}
use Rattle.gic_bound.specs.Starting.{IsUnderHeld}
use Rattle.gic_bound.proofs.Held.{starts_held, up_held}
use Rattle.gic_bound.proofs.lifting.raise_if_small.Goals as goal

pub returns-clause-under : goal.returns-clause-under
returns-clause-under c =
    let net = c.args.net.now in
    let all = standing net in
    let low = slice_index c.args.out.now in
    let cap = cap_entry (standing c.args.net.now) c.args.cap.now in
    let small = c.is_too_small.ensures.0 c.if-not-is_too_small.false in
    let raised = up_held net.network.nodes all (standing_within net.network (stands net) c.within_limits.ensures) low cap c.args.out.now c.requires.under_cap.count (starts_held all cap low c.requires.under_cap.below) c.args.node.0 small in
    subst (λ (vs : List ℕ). IsUnderHeld all low cap (slice_index vs)) (sym c.raise.ensures) raised

pub raise-requires-clause-space : goal.raise-requires-clause-space
raise-requires-clause-space c =
    let small = c.is_too_small.ensures.0 c.if-not-is_too_small.false in
    let space = small.space in
    let most = c.keeps_full.ensures c.args.node.0 in
    omega (arith, space, most)
