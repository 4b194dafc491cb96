use Rattle.std.proofs.Common.{slice_index, sym, ◌∙◌}
use Rattle.gic_net.specs.Net.{standing, stands}
use Rattle.gic_bound.proofs.Held.{alone_where_same}
use Rattle.gic_bound.proofs.starting.is_held_alone.Goals as goal

pub returns-clause-alone : goal.returns-clause-alone
returns-clause-alone c =
    let told = alone_where_same (standing c.args.net.now) c.args.vector.now c.sinks_to_itself.new.other (c.sinks_to_itself.ensures.same_length ∙ c.requires.nodes.there ∙ sym c.requires.nodes.here) c.sinks_to_itself.ensures.sunk in
    (λ yes. told.0 (c.sinks_to_itself.ensures.same.0 yes), λ alone. c.sinks_to_itself.ensures.same.1 (told.1 alone))

pub returns-clause-under : goal.returns-clause-under
returns-clause-under c = λ yes.
    let net = c.args.net.now in
    let told = alone_where_same (standing net) c.args.vector.now c.sinks_to_itself.new.other (c.sinks_to_itself.ensures.same_length ∙ c.requires.nodes.there ∙ sym c.requires.nodes.here) c.sinks_to_itself.ensures.sunk in
    c.starts_law.ensures.under net.network (stands net) (slice_index c.args.vector.now) c.within_limits.ensures c.requires.range (told.0 (c.sinks_to_itself.ensures.same.0 yes))

pub returns-clause-least : goal.returns-clause-least
returns-clause-least c = λ capped.
    let net = c.args.net.now in
    let told = alone_where_same (standing net) c.args.vector.now c.sinks_to_itself.new.other (c.sinks_to_itself.ensures.same_length ∙ c.requires.nodes.there ∙ sym c.requires.nodes.here) c.sinks_to_itself.ensures.sunk in
    let least = c.starts_law.ensures.least net.network (stands net) (slice_index c.args.vector.now) c.within_limits.ensures capped in
    (λ yes. least.0 (told.0 (c.sinks_to_itself.ensures.same.0 yes)), λ is. c.sinks_to_itself.ensures.same.1 (told.1 (least.1 is)))
