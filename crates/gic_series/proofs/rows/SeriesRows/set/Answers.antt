use Rattle.std.proofs.Common.{List, slice_set, ap, ◌∙◌}
use Rattle.std.proofs.lemmas.List.{map-set}
use Rattle.gic_series.specs.Rows.{SeriesRowView, series_row_of}
use Rattle.gic_series.proofs.rows.SeriesRows.set.Goals as goal

pub returns : goal.returns
returns c =
    map-set series_row_of c.self.inside.list.items c.args.place c.args.row
    ∙ ap (λ (rows : List SeriesRowView). slice_set rows c.args.place (series_row_of c.args.row)) c.self.view_is
