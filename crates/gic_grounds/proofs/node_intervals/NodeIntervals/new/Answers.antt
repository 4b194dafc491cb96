use Rattle.std.proofs.Common.{map, replicate, ap, ◌∙◌}
use Rattle.gic_base.proofs.Each.{map-replicate}
use Rattle.gic_fixed.specs.Ends.{ends_of}
use Rattle.gic_enclose.proofs.Intervals.{ends_are}
use Rattle.gic_grounds.proofs.node_intervals.NodeIntervals.new.Goals as goal

pub returns : goal.returns
returns c =
    ap (λ l. map ends_of l) (c.in_ok-list.ensures.items_if_clones_equal (λ y h. h)) ∙
    map-replicate ends_of c.args.nodes c.point.result ∙
    ap (λ e. replicate c.args.nodes e) (ends_are c.point.result c.point.ensures.low c.point.ensures.high)
