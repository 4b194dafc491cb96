use Rattle.std.proofs.Common.{rules, ◌≡◌, ℕ, ◌+◌, ◌<◌, length, slice_set, None, option_map, arith, ap, sym, subst, ◌∙◌}
use Rattle.std.proofs.lemmas.List.{length-set}
use Rattle.std.specs.declared.option.Option.{Option}
use Rattle.gic_fixed.specs.Ends.{Ends}
use Rattle.gic_view.specs.View.{View, node_at}
use Rattle.gic_view.specs.KeptEnds.{optional_kept}
use Rattle.gic_view.specs.Peaks.{greater}
use Rattle.gic_view.specs.Absolute.{absolute_ends}
use Rattle.gic_view.proofs.Alone.{nodes_alone}
use Rattle.gic_view.proofs.Written.{IsWritten, written}
use Rattle.gic_view.proofs.peaks.see_nodes.Goals as goal

pub loop-place-preserved : goal.loop-place-preserved
loop-place-preserved c =
    let i = c.loop-place.invariant in
    let xs = c.loop-place.peaks.nodes in
    let at = c.loop-place.place in
    let x = optional_kept c.raised_if_shown-seen.result in
    let new = c.keep_node.new.self in
    let lists : new.nodes ≡ slice_set xs at x = ap (λ (v : View). v.nodes) c.keep_node.ensures in
    let inside : at < length xs = search (rules, c.loop-place-test.true, c.sizes-count.ensures, c.requires.count, i.count) in
    let before = c.kept_node.ensures ∙ i.written.ahead at (omega arith) in
    let is = c.raised_if_shown-seen.ensures
    ∙ ap (λ (o : Option Ends). greater o (option_map absolute_ends (optional_kept c.kept_node-in-loop-place.result))) before
    ∙ ap (λ (o : Option Ends). greater (node_at c.args.peaks.now at) (option_map absolute_ends o)) c.kept_node-in-loop-place.ensures in
    let f = λ (k : ℕ). greater (node_at c.args.peaks.now k) (option_map absolute_ends (node_at c.args.view.now k)) in
    record {
      written = subst (λ ys. IsWritten f c.args.peaks.now.nodes ys None (at + 1)) (sym lists) (written f c.args.peaks.now.nodes xs None x at inside is i.written);
      rest = nodes_alone c.args.peaks.now c.loop-place.peaks new (slice_set xs at x) i.rest c.keep_node.ensures;
      count = ap length lists ∙ length-set xs at x ∙ i.count;
    }
