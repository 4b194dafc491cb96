use Rattle.std.proofs.Common.{rules, ◌≡◌, ℕ, ◌+◌, ◌<◌, length, slice_set, None, option_map, arith, ap, sym, subst, ◌∙◌}
use Rattle.std.proofs.lemmas.List.{length-set}
use Rattle.std.specs.declared.option.Option.{Option}
use Rattle.gic_fixed.specs.Ends.{Ends}
use Rattle.gic_view.specs.View.{View, element_at}
use Rattle.gic_view.specs.KeptEnds.{optional_kept}
use Rattle.gic_view.specs.Peaks.{greater}
use Rattle.gic_view.specs.Absolute.{absolute_ends}
use Rattle.gic_view.proofs.Alone.{elements_alone}
use Rattle.gic_view.proofs.Written.{IsWritten, written}
use Rattle.gic_view.proofs.peaks.see_elements.Goals as goal

pub loop-place-preserved : goal.loop-place-preserved
loop-place-preserved c =
    let i = c.loop-place.invariant in
    let xs = c.loop-place.peaks.elements in
    let at = c.loop-place.place in
    let x = optional_kept c.raised_if_shown-seen.result in
    let new = c.keep_element.new.self in
    let lists : new.elements ≡ slice_set xs at x = ap (λ (v : View). v.elements) c.keep_element.ensures in
    let inside : at < length xs = search (rules, c.loop-place-test.true, c.sizes-count.ensures, c.requires.count, i.count) in
    let before = c.kept_element.ensures ∙ i.written.ahead at (omega arith) in
    let is = c.raised_if_shown-seen.ensures
    ∙ ap (λ (o : Option Ends). greater o (option_map absolute_ends (optional_kept c.kept_element-in-loop-place.result))) before
    ∙ ap (λ (o : Option Ends). greater (element_at c.args.peaks.now at) (option_map absolute_ends o)) c.kept_element-in-loop-place.ensures in
    let f = λ (k : ℕ). greater (element_at c.args.peaks.now k) (option_map absolute_ends (element_at c.args.view.now k)) in
    record {
      written = subst (λ ys. IsWritten f c.args.peaks.now.elements ys None (at + 1)) (sym lists) (written f c.args.peaks.now.elements xs None x at inside is i.written);
      rest = elements_alone c.args.peaks.now c.loop-place.peaks new (slice_set xs at x) i.rest c.keep_element.ensures;
      count = ap length lists ∙ length-set xs at x ∙ i.count;
    }
