use Rattle.std.proofs.Common.{◌≡◌, ℕ, List, All, length, ℤ, rules, ap, ap₂, sym, subst, ◌∙◌}
use Rattle.gic_model.specs.declared.parts.Element.{Element}
use Rattle.gic_induce.specs.Fields.{lone_field}
use Rattle.gic_induce.specs.LineVolts.{volts_of, IsLineWithin}
use Rattle.gic_base_views.proofs.solving.fill_base_volts.Goals as goal

pub fill_volts-requires-clause-lines : goal.fill_volts-requires-clause-lines
fill_volts-requires-clause-lines c = subst (λ (l : List Element). All (λ e. IsLineWithin c.args.case.now e.item) l) (sym c.list.ensures.value) c.requires.lines

pub returns-clause-volts : goal.returns-clause-volts
returns-clause-volts c =
    let alone : c.set_alone.new.self ≡ lone_field (length c.args.fields.now) c.args.zone c.args.field = search (rules, c.set_alone.ensures.value) in
    c.fill_volts.ensures ∙
    ap₂ (λ (f : List (ℤ × ℤ)) (l : List Element). volts_of c.args.case.now f l) (alone ∙ ap (λ (n : ℕ). lone_field n c.args.zone c.args.field) c.requires.zones) c.list.ensures.value
