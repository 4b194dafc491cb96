use Rattle.std.proofs.Common.{◌≡◌, ◌<◌, ◌∙◌, List, length, get_or, arith, sym, ap, subst}
use Rattle.gic_case.specs.declared.item.Line.{Line}
use Rattle.gic_case.specs.Sound.{IsSoundLine}
use Rattle.gic_review.specs.Closures.{AreLaidOut}
use Rattle.gic_review.proofs.Followed.{laid_line, length_line, one_followed}
use Rattle.gic_review.proofs.findings.closing.push_closures_from.Goals as goal

pub loop-line-preserved : goal.loop-line-preserved
loop-line-preserved c =
    let case = c.args.case.now in
    let i = c.loop-line.line-index in
    let line = c.line-item.result in
    let places = c.loop-line.places in
    let same = c.lines-line-items.ensures.value in
    let sound = c.lines-line-items.ensures.sound in
    let within : i < length case.lines = omega (arith, ap length same) in
    let read : line ≡ get_or case.lines i line = c.line-item.is ∙ ap (λ (xs : List Line). get_or xs i line) same in
    let after = c.in_ok-follow.ensures.after in
    record {
      count = ap length after ∙ length_line case.buses places line ∙ c.loop-line.invariant.count;
      laid = subst AreLaidOut (sym after) (laid_line case sound places line c.loop-line.invariant.count c.loop-line.invariant.laid (subst (λ (l : Line). IsSoundLine case l) (sym read) (sound.lines_sound i line within)));
      rest = one_followed case.buses case.lines i line places c.follow.new.places c.loop-line.findings.items c.follow.new.findings.items _ within read c.in_ok-follow.ensures.told after c.loop-line.invariant.rest;
    }
