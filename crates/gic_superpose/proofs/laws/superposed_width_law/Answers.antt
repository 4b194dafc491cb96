use Rattle.std.proofs.lemmas.List.Elements.{All-get_or}
use Rattle.gic_induce.specs.Fields.{IsField, no_field}
use Rattle.gic_superpose.proofs.Widths.{superposed_narrow}
use Rattle.gic_superpose.proofs.laws.superposed_width_law.Goals as goal

pub returns : goal.returns
returns c fields row few within narrow = superposed_narrow fields row few (λ zone less. All-get_or IsField fields zone no_field less within) narrow
