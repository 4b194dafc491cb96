use Rattle.std.proofs.Common.{List, slice_set, ap, ◌∙◌}
use Rattle.std.proofs.lemmas.List.{map-set}
use Rattle.gic_fixed.specs.Ends.{Ends, ends_of}
use Rattle.gic_grounds.proofs.own.OwnCurrents.set.Goals as goal

pub returns : goal.returns
returns c =
    map-set ends_of c.self.inside.list.items c.args.transformer c.args.interval
    ∙ ap (λ (xs : List Ends). slice_set xs c.args.transformer (ends_of c.args.interval)) c.self.view_is
