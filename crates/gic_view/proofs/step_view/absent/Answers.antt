use Rattle.std.proofs.Common.{map, replicate, ap, ◌∙◌}
use Rattle.gic_base.proofs.Each.{map-replicate}
use Rattle.gic_view.specs.KeptEnds.{cell_ends}
use Rattle.gic_view.proofs.step_view.absent.Goals as goal

pub returns : goal.returns
returns c =
    ap (map cell_ends) (c.in_ok-list.ensures.items_if_clones_equal (λ y e. e))
    ∙ map-replicate cell_ends c.args.count c.cell_of.result
    ∙ ap (replicate c.args.count) c.cell_of.ensures
