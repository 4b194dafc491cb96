use Rattle.std.proofs.Common.{◌<◌, ◌∙◌, length, map, Option, None, sym, arith}
use Rattle.std.proofs.lemmas.List.{get_or-map, length-map}
use Rattle.std.proofs.lemmas.List.FromFn.{fill_by_all}
use Rattle.gic_fixed.specs.Ends.{Ends}
use Rattle.gic_view.specs.Kept.{optional_ends}
use Rattle.gic_recheck.specs.RightRecheck.{potential_of}
use Rattle.gic_recheck.proofs.potentials.potentials.Goals as goal

pub returns : goal.returns
returns c =
    let l = c.loop-node in
    let cert = c.args.cert.now in
    let none : Option Ends = None in
    fill_by_all (potential_of cert) (map optional_ends l.list.items) (length cert.nodes) none
    (length-map l.list.items optional_ends ∙ l.invariant.count ∙ sym c.requires)
    (λ k within.
    let inside : k < l.node = omega (arith, within, l.auto.node-end, c.loop-node-test.false, c.requires) in
    get_or-map optional_ends l.list.items k None none (omega (arith, inside, l.auto.node-end, l.invariant.count)) ∙ l.invariant.filled k inside)
