-- Where places lie, as far as spans tell it. Places that lines join are one group, in which each lies so far to the north and to the east.
use Rattle.std.specs.Prelude.{ℕ, ◌+◌, ◌*◌, ◌≤◌, ◌==◌, nat_lt, ◌||◌, Bool, List, map, if◌then◌else◌, pos, ◌+ℤ◌, ◌-ℤ◌, unsigned_abs}
use Rattle.std.specs.List.{range_with_len}
use Rattle.gic_base.specs.declared.limits.TheConstants.{MOST_SUBSTATIONS}
use Rattle.gic_review.specs.declared.findings.span.Span.{Span}
use Rattle.gic_review.specs.declared.findings.places.Position.{Position}
use Rattle.gic_review.specs.declared.findings.places.Gap.{Gap}
use Rattle.gic_review.specs.Spans.{tolerance_of}

-- a place alone in its group
abbrev pub alone : (group : ℕ) → Position
alone group = record { group = group; north = pos 0; east = pos 0 }

-- at the start each place is a group of its own
abbrev pub start_of : (count : ℕ) → List Position
start_of count = map alone (range_with_len 0 count)

-- how far a line misses the place that it leads to: the place that it leads from and its span, less that place
abbrev pub gap_of : (from : Position) → Span → (to : Position) → Gap
gap_of from span to = record { north = (from.north +ℤ span.north) -ℤ to.north; east = (from.east +ℤ span.east) -ℤ to.east }

-- the gap of a loop is more than it may be at the line that closes it
abbrev pub is_open : Span → Gap → Bool
is_open span gap = nat_lt (tolerance_of span) (unsigned_abs gap.north) || nat_lt (tolerance_of span) (unsigned_abs gap.east)

-- the place, moved into another group
abbrev pub moved : (group : ℕ) → Gap → Position → Position
moved group gap p = record { group = group; north = p.north +ℤ gap.north; east = p.east +ℤ gap.east }

-- what becomes of a place: those of the group of `to` move into the group of `from`
abbrev pub carried : (from to : Position) → Gap → Position → Position
carried from to gap p = if p.group == to.group then moved from.group gap p else p

-- the group of `to` is moved as a whole, so that the place of `to` lies at that of `from` and the span
abbrev pub group_moved : (from to : Position) → Gap → List Position → List Position
group_moved from to gap places = map (carried from to gap) places

-- a million metres for each substation of a case: no place lies further off in its group
abbrev pub most_way : ℕ
most_way = 1000000 * MOST_SUBSTATIONS

pub record IsNearPosition (p : Position) : Type 0 where
  pub north_near : unsigned_abs p.north ≤ most_way
  pub east_near : unsigned_abs p.east ≤ most_way

-- nor is a gap wider than twice that and a line's way
pub record IsNearGap (gap : Gap) : Type 0 where
  pub north_near : unsigned_abs gap.north ≤ 2 * most_way + 2147483648
  pub east_near : unsigned_abs gap.east ≤ 2 * most_way + 2147483648
