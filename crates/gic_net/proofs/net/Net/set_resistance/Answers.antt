use Rattle.std.proofs.Common.{◌<◌, length, arith, subst, sym}
use Rattle.gic_net.specs.Net.{NetView}
use Rattle.gic_net.proofs.Resisted.{kept_resisted}
use Rattle.gic_net.proofs.net.Net.set_resistance.Goals as goal

pub invariant_of-self : goal.invariant_of-self
invariant_of-self c =
    let inside = subst (λ (n : NetView). c.args.element.0 < length n.network.list) (sym c.self.view_is) c.requires.place in
    kept_resisted _ _ _ _ _ _ _ _ _ _ _ c.self.invariant (omega (arith, inside)) c.index.ensures c.requires.least c.requires.most c.worked_out.ensures
