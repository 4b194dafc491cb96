use Rattle.std.proofs.Common.{◌≡◌, List, All, rules, ap, sym, subst, ◌∙◌}
use Rattle.gic_model.specs.declared.parts.Element.{Element}
use Rattle.gic_model.specs.Network.{Network}
use Rattle.gic_induce.specs.LineVolts.{uniform_field, volts_of, IsLineWithin}
use Rattle.gic_uniform.proofs.uniform.uniform_volts.Goals as goal

pub fill_volts-requires-clause-lines : goal.fill_volts-requires-clause-lines
fill_volts-requires-clause-lines c =
    let all = subst (λ (n : Network). All (λ (e : Element). IsLineWithin c.args.case.now e.item) n.list) (sym c.requires.elements) (c.line_items_law.ensures c.args.case.now) in
    subst (λ (l : List Element). All (λ e. IsLineWithin c.args.case.now e.item) l) (sym c.list.ensures.value) all

pub returns : goal.returns
returns c =
    let case = c.args.case.now in
    let fields : c.in_ok-fields.fields ≡ uniform_field case c.args.north c.args.east = search (rules, c.in_ok-fields.ensures, c.zones.ensures.value) in
    c.fill_volts.ensures
    ∙ ap (λ (l : List Element). volts_of case c.in_ok-fields.fields l) c.list.ensures.value
    ∙ ap (λ f. volts_of case f c.args.elements.now.list) fields
    ∙ ap (λ (n : Network). volts_of case (uniform_field case c.args.north c.args.east) n.list) c.requires.elements
