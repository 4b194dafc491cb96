-- Lines that are followed one after another.
use Rattle.std.proofs.Common.{◌≡◌, ℕ, ◌+◌, ◌<◌, List, ◌∷◌, ◌++◌, length, drop, get_or, refl, ap, sym, ◌∙◌, subst, arith, inl, inr, append_assoc}
use Rattle.std.proofs.lemmas.Bool.{cases_eq, eq-eqb, ne_eqb}
use Rattle.std.proofs.lemmas.List.{drop_more, length-map}
use Rattle.gic_case.specs.declared.item.Bus.{Bus}
use Rattle.gic_case.specs.declared.item.Line.{Line}
use Rattle.gic_case.specs.Lists.{Lists, substation_at}
use Rattle.gic_case.specs.Sound.{IsSound, IsSoundLine}
use Rattle.gic_winding.proofs.Grids.{substation_within}
use Rattle.gic_review.specs.declared.findings.finding.Finding.{Finding}
use Rattle.gic_review.specs.declared.findings.places.Position.{Position}
use Rattle.gic_review.specs.Spans.{span_of}
use Rattle.gic_review.specs.Places.{IsNearPosition, carried}
use Rattle.gic_review.specs.Closures.{position_of_bus, gap_at, told_at_line, places_after, closures_from, AreLaidOut}
use Rattle.gic_review.proofs.LaidOut.{laid_after, near_at}
use Rattle.gic_review.proofs.PartsAdded.{north_span, east_span}

-- the place of a bus lies near
pub place_near : (c : Lists) → IsSound c → (places : List Position) (bus : ℕ) → length places ≡ length c.substations → AreLaidOut places → bus < length c.buses → (p : Position) → p ≡ position_of_bus c.buses places bus → IsNearPosition p
place_near c sound places bus count h within p is =
    let inside : substation_at c.buses bus < length places = omega (arith, substation_within c sound bus within, count) in
    subst IsNearPosition (sym is) (near_at places h (substation_at c.buses bus) inside)

-- places stay laid out
pub laid_line : (c : Lists) → IsSound c → (places : List Position) (l : Line) → length places ≡ length c.substations → AreLaidOut places → IsSoundLine c l → AreLaidOut (places_after c.buses places l)
laid_line c sound places l count h line = elim (cases_eq (position_of_bus c.buses places l.from).group (position_of_bus c.buses places l.to).group) [
  | inl same ↦ rw (eq-eqb (position_of_bus c.buses places l.from).group (position_of_bus c.buses places l.to).group same) h
  | inr apart ↦
      let from_in : substation_at c.buses l.from < length places = omega (arith, substation_within c sound l.from line.from_within, count) in
      let to_in : substation_at c.buses l.to < length places = omega (arith, substation_within c sound l.to line.to_within, count) in
      rw (ne_eqb (position_of_bus c.buses places l.from).group (position_of_bus c.buses places l.to).group apart)
      (laid_after places (substation_at c.buses l.from) (substation_at c.buses l.to) from_in to_in (span_of l) apart h (north_span c l line) (east_span c l line))
]

pub length_line : (buses : List Bus) (places : List Position) (l : Line) → length (places_after buses places l) ≡ length places
length_line buses places l = elim (cases_eq (position_of_bus buses places l.from).group (position_of_bus buses places l.to).group) [
  | inl same ↦ rw (eq-eqb (position_of_bus buses places l.from).group (position_of_bus buses places l.to).group same) refl
  | inr apart ↦
      rw (ne_eqb (position_of_bus buses places l.from).group (position_of_bus buses places l.to).group apart)
      (length-map places (carried (position_of_bus buses places l.from) (position_of_bus buses places l.to) (gap_at buses places l)))
]

-- one more line was followed
pub one_followed : (buses : List Bus) (lines : List Line) (i : ℕ) (l : Line) (places after : List Position) (old new whole : List Finding) → i < length lines → l ≡ get_or lines i l
    → new ≡ old ++ told_at_line buses places l → after ≡ places_after buses places l
    → old ++ closures_from buses places (drop i lines) ≡ whole → new ++ closures_from buses after (drop (i + 1) lines) ≡ whole
one_followed buses lines i l places after old new whole within read told is before =
    let split : drop i lines ≡ l ∷ drop (i + 1) lines = drop_more lines i l within ∙ ap (λ (x : Line). x ∷ drop (i + 1) lines) (sym read) in
    ap (λ (n : List Finding). n ++ closures_from buses after (drop (i + 1) lines)) told
    ∙ ap (λ (p : List Position). (old ++ told_at_line buses places l) ++ closures_from buses p (drop (i + 1) lines)) is
    ∙ append_assoc old (told_at_line buses places l) (closures_from buses (places_after buses places l) (drop (i + 1) lines))
    ∙ ap (λ (r : List Line). old ++ closures_from buses places r) (sym split) ∙ before
