use Rattle.std.proofs.Common.{◌≡◌, ◌∙◌, false, sym}
use Rattle.gic_base.specs.Name.{is_name}
use Rattle.gic_switch.proofs.NamedItems.{no_name, nothing_named}
use Rattle.gic_switch.proofs.item.named.Goals as goal

pub returns-in_err-name : goal.returns-in_err-name
returns-in_err-name c =
    let bad : is_name c.args.text.now ≡ false = no_name _ c.args.text.now (sym c.read.ensures ∙ c.in_err-name.was) in
    c.from_residual.ensures ∙ sym (nothing_named c.args.case.now c.args.text.now c.keeps_rules.ensures bad)
