-- The rows of items that are still to come.
use Rattle.std.specs.Prelude.{List, ◌++◌}
use Rattle.std.specs.Option.{option_to_list}
use Rattle.gic_report.specs.declared.rows.ItemRow.{ItemRow}
use Rattle.gic_report.specs.declared.rows.ItemRows.{ItemRows}
use Rattle.gic_report.specs.ItemText.{all_ground_rows, all_line_rows, all_neutral_rows, all_winding_rows}

-- the rows that are left, in their order
abbrev pub rows_left : ItemRows → List ItemRow
rows_left r =
    all_ground_rows r.grounds.now ++
    (all_line_rows r.lines.now ++ ((option_to_list r.second ++ (option_to_list r.third ++ all_winding_rows r.windings.now)) ++ all_neutral_rows r.neutrals.now))
