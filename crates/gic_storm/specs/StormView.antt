-- What a storm is.
use Rattle.std.specs.Prelude.{ℕ, ◌≤◌, ◌<◌, List, length, map, All, IfSome}
use Rattle.std.specs.List.Sorted.{IsNonDecreasingBy}
use Rattle.gic_base.specs.declared.limits.TheConstants.{MOST_ZONES, MOST_ROWS}
use Rattle.gic_case.specs.ZoneView.{ZoneView}
use Rattle.gic_induce.specs.Voltage.{IsFieldWithin}
use Rattle.gic_storm.specs.declared.row.StormRow.{StormRow}

-- the number of zones of the case, and the rows in order
pub record StormView : Type 0 where
  pub zones : ℕ
  pub rows : List StormRow

-- what every row keeps: a zone among this many, if it names one, and a field within its range
pub record IsRow (zones : ℕ) (r : StormRow) : Type 0 where
  pub zone : IfSome r.zone (λ n. n < zones)
  pub north : IsFieldWithin r.north
  pub east : IsFieldWithin r.east

-- what every storm keeps: 1 to `MOST_ROWS` rows, whose times do not fall
pub record IsStorm (s : StormView) : Type 0 where
  pub few_zones : s.zones ≤ MOST_ZONES
  pub some_row : 1 ≤ length s.rows
  pub few_rows : length s.rows ≤ MOST_ROWS
  pub each_row : All (IsRow s.zones) s.rows
  pub ordered : IsNonDecreasingBy (λ r. r.time) s.rows

-- the names of zones
abbrev pub zone_names : List ZoneView → List (List ℕ)
zone_names zones = map (λ z. z.name) zones
