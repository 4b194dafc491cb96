use Rattle.std.proofs.Common.{ap, ◌∙◌, slice_set}
use Rattle.std.proofs.lemmas.List.{map-set}
use Rattle.gic_fixed.specs.Ends.{ends_of}
use Rattle.gic_enclose.proofs.potentials.Potentials.set.Goals as goal

pub returns : goal.returns
returns c = map-set ends_of c.self.inside.intervals.items c.args.node.0 c.args.interval ∙ ap (λ l. slice_set l c.args.node.0 (ends_of c.args.interval)) c.self.view_is
