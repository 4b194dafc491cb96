-- Round a small loop spans close, since they are differences of places; round a large one meridians converge. A line that closes a loop is told where the loop stays open by more than it may.
use Rattle.std.specs.Prelude.{ℕ, ◌*◌, ◌<◌, ◌≤◌, ◌≡◌, ◌==◌, List, [], ◌∷◌, ◌++◌, length, slice_index_or, count_by, if◌then◌else◌, ℤ, pos, ◌+ℤ◌, ◌≤ℤ◌}
use Rattle.gic_base.specs.declared.limits.TheConstants.{MOST_SUBSTATIONS}
use Rattle.gic_case.specs.declared.item.Bus.{Bus}
use Rattle.gic_case.specs.declared.item.Line.{Line}
use Rattle.gic_case.specs.Lists.{Lists, substation_at}
use Rattle.gic_review.specs.declared.findings.finding.Finding.{Finding}
use Rattle.gic_review.specs.declared.findings.finding.Finding.TheVariants.{Closure}
use Rattle.gic_review.specs.declared.findings.span.Span.{Span}
use Rattle.gic_review.specs.declared.findings.places.Position.{Position}
use Rattle.gic_review.specs.declared.findings.places.Gap.{Gap}
use Rattle.gic_review.specs.Spans.{span_of}
use Rattle.gic_review.specs.Places.{alone, start_of, gap_of, is_open, group_moved}

-- the place of a substation
abbrev pub at : List Position → ℕ → Position
at places k = slice_index_or places k (alone 0)

-- the place of a bus: that of its substation
abbrev pub position_of_bus : List Bus → List Position → (bus : ℕ) → Position
position_of_bus buses places bus = at places (substation_at buses bus)

-- how far the line misses the place of its `to`
abbrev pub gap_at : List Bus → List Position → Line → Gap
gap_at buses places l = gap_of (position_of_bus buses places l.from) (span_of l) (position_of_bus buses places l.to)

-- the line of this name and span closes a loop with this gap
abbrev pub closure_told : List ℕ → Span → Gap → List Finding
closure_told name span gap = if is_open span gap then Closure name gap.north gap.east ∷ [] else []

-- a line between two places of one group closes a loop
abbrev pub told_at_line : List Bus → List Position → Line → List Finding
told_at_line buses places l =
    if (position_of_bus buses places l.from).group == (position_of_bus buses places l.to).group then closure_told l.name (span_of l) (gap_at buses places l) else []

-- a line between two groups joins them
abbrev pub places_after : List Bus → List Position → Line → List Position
places_after buses places l =
    if (position_of_bus buses places l.from).group == (position_of_bus buses places l.to).group then places
    else group_moved (position_of_bus buses places l.from) (position_of_bus buses places l.to) (gap_at buses places l) places

-- what is told of these lines, one after another, blocked ones too
abbrev pub closures_from : List Bus → List Position → List Line → List Finding
closures_from buses places [] = []
closures_from buses places (l ∷ ls) = told_at_line buses places l ++ closures_from buses (places_after buses places l) ls

-- what is told of the loops of a case
abbrev pub closures_of : Lists → List Finding
closures_of c = closures_from c.buses (start_of (length c.substations)) c.lines

-- how many places are in a group
abbrev pub size_of : List Position → (group : ℕ) → ℕ
size_of places group = count_by (λ p. p.group == group) places

-- x is above y by a million for each of `steps` but one, or by less
abbrev pub IsWithinSteps : (x y : ℤ) (steps : ℕ) → Type 0
IsWithinSteps x y steps = (x +ℤ pos 1000000) ≤ℤ (y +ℤ pos (1000000 * steps))

-- what places keep on the way: a group is named by a place in it, which lies at zero, and its places are at most a million metres apart for each of them but one
pub record AreLaidOut (places : List Position) : Type 0 where
  pub few : length places ≤ MOST_SUBSTATIONS
  pub inside : (k : ℕ) → k < length places → (at places k).group < length places
  pub own : (k : ℕ) → k < length places → at places (at places k).group ≡ alone (at places k).group
  pub north_near : (k m : ℕ) → k < length places → m < length places → (at places k).group ≡ (at places m).group →
      IsWithinSteps (at places k).north (at places m).north (size_of places (at places k).group)
  pub east_near : (k m : ℕ) → k < length places → m < length places → (at places k).group ≡ (at places m).group →
      IsWithinSteps (at places k).east (at places m).east (size_of places (at places k).group)
