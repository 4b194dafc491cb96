-- The parts of a line, added one after another to its span.
use Rattle.std.proofs.Common.{◌≡◌, ℕ, ◌+◌, ◌<◌, ◌≤◌, List, [], ◌∷◌, length, drop, get_or, ℤ, ◌+ℤ◌, unsigned_abs, arith, subst}
use Rattle.std.specs.List.{sum_by}
use Rattle.std.proofs.lemmas.Int.{ints}
use Rattle.std.proofs.lemmas.List.{drop_more}
use Rattle.std.proofs.lemmas.List.Sums.{sum_by-cons}
use Rattle.gic_fixed.specs.Sums.{sum_of}
use Rattle.gic_case.specs.declared.item.Line.{Line}
use Rattle.gic_case.specs.declared.part.LinePart.{LinePart}
use Rattle.gic_case.specs.Lists.{Lists}
use Rattle.gic_case.specs.Sound.{IsSoundLine}
use Rattle.gic_case.specs.Courses.{parts_of, north_way, east_way}
use Rattle.gic_review.specs.declared.findings.span.Span.{Span}
use Rattle.gic_review.specs.Spans.{span_of, span_with}

-- a sum is no further from 0 than its terms together
sum_short : {X : Type 0} (f : X → ℤ) (xs : List X) → unsigned_abs (sum_of f xs) ≤ sum_by (λ x. unsigned_abs (f x)) xs
sum_short f [] = omega (arith, ints)
sum_short f (x ∷ xs) =
    let rest = sum_short f xs in
    let split = sum_by-cons (λ y. unsigned_abs (f y)) x xs in
    omega (arith, ints)

-- the span of a line of a case is short
pub north_span : (c : Lists) (l : Line) → IsSoundLine c l → unsigned_abs (span_of l).north ≤ 1000000
north_span c l h = let sum = sum_short (λ (p : LinePart). p.north) (parts_of l.course) in omega (arith, sum, h.north_within)

pub east_span : (c : Lists) (l : Line) → IsSoundLine c l → unsigned_abs (span_of l).east ≤ 1000000
east_span c l h = let sum = sum_short (λ (p : LinePart). p.east) (parts_of l.course) in omega (arith, sum, h.east_within)

-- the span so far, and the parts that are left of all
pub record IsPartWay (span : Span) (left all : List LinePart) : Type 0 where
  pub north : span.north +ℤ sum_of (λ p. p.north) left ≡ sum_of (λ p. p.north) all
  pub east : span.east +ℤ sum_of (λ p. p.east) left ≡ sum_of (λ p. p.east) all
  pub north_short : unsigned_abs span.north + north_way left ≤ 1000000
  pub east_short : unsigned_abs span.east + east_way left ≤ 1000000

-- the next part can be added
pub one_added : (parts : List LinePart) (i : ℕ) (d : LinePart) (span : Span) → i < length parts → IsPartWay span (drop i parts) parts → IsPartWay (span_with span (get_or parts i d)) (drop (i + 1) parts) parts
one_added parts i d span within h =
    let way : IsPartWay span (get_or parts i d ∷ drop (i + 1) parts) parts = subst (λ (left : List LinePart). IsPartWay span left parts) (drop_more parts i d within) h in
    let north_ways = sum_by-cons (λ (p : LinePart). unsigned_abs p.north) (get_or parts i d) (drop (i + 1) parts) in
    let east_ways = sum_by-cons (λ (p : LinePart). unsigned_abs p.east) (get_or parts i d) (drop (i + 1) parts) in
    record {
      north = omega (arith, ints, way.north);
      east = omega (arith, ints, way.east);
      north_short = omega (arith, ints, north_ways, way.north_short);
      east_short = omega (arith, ints, east_ways, way.east_short);
    }
