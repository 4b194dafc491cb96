use Rattle.std.proofs.Common.{rules, ◌≡◌, pos, map, replicate, ap, ◌∙◌}
use Rattle.gic_fixed.specs.Ends.{Ends, ends_of, zero_ends}
use Rattle.gic_base.proofs.Each.{map-replicate}
use Rattle.gic_series.specs.Rows.{SeriesRowView, series_row_of}
use Rattle.gic_series.proofs.rows.SeriesRows.new.Goals as goal

pub returns : goal.returns
returns c =
    let low : c.point.result.lo ≡ pos 0 = search (rules, c.point.ensures.low) in
    let high : c.point.result.hi ≡ pos 0 = search (rules, c.point.ensures.high) in
    let zero : ends_of c.point.result ≡ zero_ends = cc in
    let first : Ends → SeriesRowView = λ e. record { number = 0; time = 0; effective = e } in
    ap (map series_row_of) (c.in_ok-list.ensures.items_if_clones_equal (λ y e. e))
    ∙ map-replicate series_row_of c.args.count _
    ∙ ap (λ e. replicate c.args.count (first e)) zero
