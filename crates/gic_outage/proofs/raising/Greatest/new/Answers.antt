use Rattle.std.proofs.Common.{◌≡◌, None, map, replicate, rules, ap, ◌∙◌}
use Rattle.gic_view.specs.Kept.{optional_ends}
use Rattle.gic_base.proofs.Each.{map-replicate}
use Rattle.gic_outage.proofs.raising.Greatest.new.Goals as goal

pub returns : goal.returns
returns c =
    let none : c.in_ok-list.list.items ≡ replicate c.args.count None = search (rules, c.in_ok-list.ensures.items_if_clones_equal) in
    ap (map optional_ends) none ∙ map-replicate optional_ends c.args.count None
