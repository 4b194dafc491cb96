-- Where lines lead.
use Rattle.std.specs.Prelude.{ℕ, ◌≤◌, List, [], ◌∷◌, length, unsigned_abs}
use Rattle.std.specs.List.{sum_by}
use Rattle.gic_base.specs.declared.limits.TheConstants.{MOST_PARTS}
use Rattle.gic_case.specs.declared.part.LinePart.{LinePart}
use Rattle.gic_case.specs.declared.course.Course.{Course}
use Rattle.gic_case.specs.declared.course.Course.TheVariants as courses

-- the parts of a course: one, or several
abbrev pub parts_of : Course → List LinePart
parts_of (courses.One part) = part ∷ []
parts_of (courses.Several parts) = parts

-- how far the parts lead to the north or to the south together, in metres
abbrev pub north_way : List LinePart → ℕ
north_way = sum_by (λ p. unsigned_abs p.north)

-- how far they lead to the east or to the west together
abbrev pub east_way : List LinePart → ℕ
east_way = sum_by (λ p. unsigned_abs p.east)

-- where there are several parts, there are at least two, and at most MOST_PARTS
abbrev pub AreFewParts : Course → Type 0
AreFewParts (courses.One part) = Unit {0}
AreFewParts (courses.Several parts) = (2 ≤ length parts) × (length parts ≤ MOST_PARTS)
