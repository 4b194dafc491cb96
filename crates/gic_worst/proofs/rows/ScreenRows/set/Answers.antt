use Rattle.std.proofs.Common.{List, slice_set, ap, ◌∙◌}
use Rattle.std.proofs.lemmas.List.{map-set}
use Rattle.gic_worst.specs.Rows.{ScreenRowView, screen_row_of}
use Rattle.gic_worst.proofs.rows.ScreenRows.set.Goals as goal

pub returns : goal.returns
returns c =
    map-set screen_row_of c.self.inside.list.items c.args.transformer c.args.row
    ∙ ap (λ (rows : List ScreenRowView). slice_set rows c.args.transformer (screen_row_of c.args.row)) c.self.view_is
