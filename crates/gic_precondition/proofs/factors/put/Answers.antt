use Rattle.std.proofs.Common.{◌<◌}
use Rattle.std.proofs.lemmas.List.Elements.{All-set}
use Rattle.gic_precondition.specs.declared.parts.Entry.{Entry}
use Rattle.gic_precondition.proofs.factors.put.Goals as goal

pub returns : goal.returns
returns c nodes below inside = All-set (λ (e : Entry). e.far < nodes) c.args.entries.now c.args.place c.args.entry below inside
