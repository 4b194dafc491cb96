-- The spans of lines.
use Rattle.std.specs.Prelude.{ℕ, ◌≤◌, ◌+◌, ◌/◌, ◌+ℤ◌, unsigned_abs}
use Rattle.gic_fixed.specs.Sums.{sum_of}
use Rattle.gic_case.specs.declared.part.LinePart.{LinePart}
use Rattle.gic_case.specs.declared.item.Line.{Line}
use Rattle.gic_case.specs.Courses.{parts_of, north_way, east_way}
use Rattle.gic_review.specs.declared.findings.span.Span.{Span}

-- how far a line leads to the north and to the east: as far as its parts together
abbrev pub span_of : Line → Span
span_of l = record { north = sum_of (λ p. p.north) (parts_of l.course); east = sum_of (λ p. p.east) (parts_of l.course) }

-- and how far in all
abbrev pub length_of : Span → ℕ
length_of s = unsigned_abs s.north + unsigned_abs s.east

-- how far a loop may stay open at the line that closes it: two kilometres, and a twentieth of the line's span
abbrev pub tolerance_of : Span → ℕ
tolerance_of s = 2000 + length_of s / 20

-- a span and one part more
abbrev pub span_with : Span → LinePart → Span
span_with s p = record { north = s.north +ℤ p.north; east = s.east +ℤ p.east }

-- the parts of a line lead no further than those of a case may: 1000000 metres to the north and to the south together, and as far to the east and to the west
pub record IsShort (l : Line) : Type 0 where
  pub north_short : north_way (parts_of l.course) ≤ 1000000
  pub east_short : east_way (parts_of l.course) ≤ 1000000
