use Rattle.std.proofs.Common.{List, ap, sym, subst, ◌∙◌}
use Rattle.std.specs.Prelude.{All}
use Rattle.gic_induce.specs.LineVolts.{IsLineWithin}
use Rattle.gic_model.specs.declared.parts.Element.{Element}
use Rattle.gic_model.specs.Network.{Network}
use Rattle.gic_course.proofs.showing.solve_fields.Goals as goal

pub fill_volts-requires-clause-lines : goal.fill_volts-requires-clause-lines
fill_volts-requires-clause-lines c =
    let same = c.list.ensures.value ∙ ap (λ (n : Network). n.list) c.requires.network in
    subst (λ (l : List Element). All (λ e. IsLineWithin c.args.case.now e.item) l) (sym same) (c.line_items_law.ensures c.args.case.now)
