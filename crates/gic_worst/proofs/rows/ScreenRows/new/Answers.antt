use Rattle.std.proofs.Common.{rules, ◌≡◌, pos, map, replicate, ap, ◌∙◌}
use Rattle.gic_fixed.specs.Ends.{Ends, ends_of, zero_ends}
use Rattle.gic_base.proofs.Each.{map-replicate}
use Rattle.gic_worst.specs.Rows.{ScreenRowView, screen_row_of}
use Rattle.gic_worst.proofs.rows.ScreenRows.new.Goals as goal

pub returns : goal.returns
returns c =
    let low : c.point-zero.result.lo ≡ pos 0 = search (rules, c.point-zero.ensures.low) in
    let high : c.point-zero.result.hi ≡ pos 0 = search (rules, c.point-zero.ensures.high) in
    let zero : ends_of c.point-zero.result ≡ zero_ends = cc in
    let three : Ends → ScreenRowView = λ e. record { north = e; east = e; worst = e } in
    ap (map screen_row_of) (c.in_ok-list.ensures.items_if_clones_equal (λ y e. e))
    ∙ map-replicate screen_row_of c.args.count _
    ∙ ap (λ e. replicate c.args.count (three e)) zero
