use Rattle.std.proofs.Common.{rules, ◌≡◌, pos, map, replicate, ap, ◌∙◌}
use Rattle.gic_fixed.specs.Ends.{ends_of, zero_ends}
use Rattle.gic_base.proofs.Each.{map-replicate}
use Rattle.gic_view.specs.KeptEnds.{kept_ends}
use Rattle.gic_view.proofs.step_view.points.Goals as goal

pub returns-clause-zeros : goal.returns-clause-zeros
returns-clause-zeros c =
    let low : c.point.result.lo ≡ pos 0 = search (rules, c.point.ensures.low) in
    let high : c.point.result.hi ≡ pos 0 = search (rules, c.point.ensures.high) in
    let zero : ends_of c.point.result ≡ zero_ends = cc in
    ap (map kept_ends) (c.in_ok-list.ensures.items_if_clones_equal (λ y e. e))
    ∙ map-replicate kept_ends c.args.count c.keep-zero.result
    ∙ ap (replicate c.args.count) (c.keep-zero.ensures ∙ zero)
