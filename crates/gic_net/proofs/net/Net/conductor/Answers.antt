use Rattle.std.proofs.Common.{◌≡◌, ◌<◌, length, arith, subst, sym, ◌∙◌}
use Rattle.gic_net.specs.Net.{NetView, element_of}
use Rattle.gic_net.specs.Conductor.{conductor_of}
use Rattle.gic_net.proofs.Conductors.{as_many, conductor_at}
use Rattle.gic_net.proofs.net.Net.conductor.Goals as goal

pub index-requires : goal.index-requires
index-requires c =
    let inside : c.args.element.0 < length c.self.inside.list.items = subst (λ (n : NetView). c.args.element.0 < length n.network.list) (sym c.self.view_is) c.requires in
    omega (arith, inside, as_many c.self.inside.list.items c.self.inside.conductors.items c.self.invariant.1)

pub returns : goal.returns
returns c =
    let inside : c.args.element.0 < length c.self.inside.list.items = subst (λ (n : NetView). c.args.element.0 < length n.network.list) (sym c.self.view_is) c.requires in
    subst (λ (n : NetView). c.index.result.now ≡ conductor_of (element_of n.network c.args.element.0)) c.self.view_is
    (c.index.ensures ∙ conductor_at c.self.inside.list.items c.self.inside.conductors.items c.args.element.0 c.index.result.now c.self.invariant.1 inside)
