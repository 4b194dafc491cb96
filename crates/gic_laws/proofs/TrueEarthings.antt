-- The ranges of earthings over the views of a right study hold the exact currents of its steps, and no end is far from one.
use Rattle.std.proofs.Common.{◌≡◌, ℕ, zero, suc, ◌*◌, ◌<◌, ℤ, pos, ◌+ℤ◌, ◌-ℤ◌, ◌*ℤ◌, ◌≤ℤ◌, List, [], ◌∷◌, ◌++◌, map, length, get_or, slice_get, Contains, IsTrue, IsSomeAnd, Option, Some, None, refl, ap, sym, subst, ◌∙◌, arith, inl, inr, ◌⊎◌, zero-add, length-append}
use Rattle.std.specs.List.{cons_option, enumerate_from}
use Rattle.std.proofs.lemmas.Int.{ints, fold-int_min_reached, fold-int_max_reached}
use Rattle.std.proofs.lemmas.List.{get_or-map, get_or_append_left, length-map}
use Rattle.std.proofs.lemmas.List.Elements.{All-get_or, Contains-get_or}
use Rattle.std.proofs.lemmas.List.FromFn.{get_or-enumerate_from, length-enumerate_from}
use Rattle.std.proofs.lemmas.Option.{slice_get-get_or}
use Rattle.gic_fixed.specs.Encloses.{Encloses}
use Rattle.gic_fixed.specs.Ends.{Ends, IsAtMostWide}
use Rattle.gic_fixed.proofs.Enclosures.{≤ℤ-times}
use Rattle.gic_fixed.proofs.Integers.{linear}
use Rattle.gic_case.specs.Lists.{Lists}
use Rattle.gic_model.specs.declared.parts.Element.{Element}
use Rattle.gic_model.specs.Solution.{Solution, IsSolution}
use Rattle.gic_model.specs.Standing.{is_standing}
use Rattle.gic_model.specs.Sums.{Placed}
use Rattle.gic_view.specs.View.{View, element_at}
use Rattle.gic_view.specs.Kept.{blank_view}
use Rattle.gic_winding.specs.ElementList.{all_windings_of, earthing, earthings_of, element_list, elements_of, lines_of, resistors_of}
use Rattle.gic_effective.specs.Narrow.{IsNarrowView, IsNoWider}
use Rattle.gic_effective.specs.RightView.{IsRightElement}
use Rattle.gic_monitor.specs.declared.roster.Seat.{Seat}
use Rattle.gic_monitor.specs.RosterView.{RosterView}
use Rattle.gic_monitor.specs.Bounds.{RangeHoldsEach}
use Rattle.gic_monitor.specs.EarthText.{earth_text, range_among, range_of, seat_line, standing_ends}
use Rattle.gic_inputs.specs.declared.inputs.StormInputs.{StormInputs}
use Rattle.gic_course.specs.Steps.{IsStepOf, standing_at_step, storm_volts}
use Rattle.gic_course.specs.Views.{view_at}
use Rattle.gic_study_mode.specs.PeakEnclosure.{AreStepSolutions}
use Rattle.gic_study_mode.specs.RightStudy.{IsRightStudy}
use Rattle.gic_study_mode.specs.Roster.{roster_of, seat_at, seats_of}
use Rattle.gic_laws.specs.Printed.{HasTrueLines, width_asked}
use Rattle.gic_laws.specs.Earthings.{IsTrueEarthing, IsTrueRangeIfAny, StandsAt}

-- the earthings are the first elements
first_element : (case : Lists) (place : ℕ) (d : Element) → place < length (earthings_of case) →
    (place < length (elements_of case).list) × (slice_get (elements_of case).list place ≡ Some (get_or (earthings_of case) place d))
unfolding elements_of
first_element case place d within =
    let others = lines_of case ++ (all_windings_of case ++ resistors_of case) in
    let inside : place < length (element_list case) = omega (arith, within, length-append (earthings_of case) others) in
    (inside, slice_get-get_or (element_list case) place d inside ∙ ap (λ e. Some e) (get_or_append_left (earthings_of case) others d place within))

-- an interval that stands is that of some view
first_or_later : (x : Ends) (rest : List Ends) (e : Ends) (k : ℕ) → k < length (x ∷ rest) → get_or (x ∷ rest) k e ≡ e → (Some x ≡ Some e) ⊎ Contains rest e
first_or_later x rest e zero within is = inl (ap (λ z. Some z) is)
first_or_later x rest e (suc k) within is = inr (k, omega (arith, within), is)

next_shown : (o : Option Ends) (rest : List Ends) (e : Ends) → Contains (cons_option o rest) e → (o ≡ Some e) ⊎ Contains rest e
next_shown None rest e among = inr among
next_shown (Some x) rest e among = first_or_later x rest e among.0 among.1 among.2

shown_at : (element : ℕ) (views : List View) (e : Ends) → Contains (standing_ends element views) e → (place : ℕ) × (place < length views) × (element_at (view_at views place) element ≡ Some e)
shown_at element [] e among = absurd (omega (arith, among.1))
shown_at element (view ∷ views) e among = elim (next_shown (element_at view element) (standing_ends element views) e among) [
  | inl here ↦ (zero, omega arith, here)
  | inr later ↦ let found = shown_at element views e later in (suc found.0, omega (arith, found.1), found.2)
]

-- an end of the range is that of one of the intervals
reached : (side : Ends → ℤ) (first : Ends) (others : List Ends) (r : ℤ) → (r ≡ side first) ⊎ Contains (map side others) r → (e : Ends) × Contains (first ∷ others) e × (side e ≡ r)
reached side first others r (inl is) = (first, Contains-get_or (first ∷ others) 0 first (omega arith), sym is)
reached side first others r (inr among) =
    let k = among.0 in
    let inside : k < length others = omega (arith, among.1, length-map others side) in
    (get_or others k first, Contains-get_or (first ∷ others) (suc k) first (omega (arith, inside)), sym (get_or-map side others k first r inside) ∙ among.2)

-- an element that stands has an interval, which holds its current in each solution
interval_of : (standing : List Placed) (volts : ℕ → ℤ) (place : ℕ) (cell : Option Ends) → IsRightElement standing volts place cell → IsTrue (is_standing standing place) →
    (e : Ends) × (cell ≡ Some e) × ((s : Solution) → IsSolution standing volts s → Encloses e.low e.high (s.current place) (1000000 * s.denominator))
interval_of standing volts place None right stands = let none : ⊥ = grind (arith, right, stands) in absurd none
interval_of standing volts place (Some e) right stands = (e, refl, right.1)

-- over plain numbers: a fraction in a narrow interval is near both ends
near_low : (lo hi n : ℤ) (d width : ℕ) → IsAtMostWide width lo hi → Encloses lo hi n d → n ≤ℤ ((lo +ℤ pos width) *ℤ pos d)
near_low lo hi n d width narrow e =
    let most = ≤ℤ-times hi (lo +ℤ pos width) d (omega (arith, ints, narrow)) in
    omega (arith, linear, most, e.below_hi)

near_high : (lo hi n : ℤ) (d width : ℕ) → IsAtMostWide width lo hi → Encloses lo hi n d → ((hi -ℤ pos width) *ℤ pos d) ≤ℤ n
near_high lo hi n d width narrow e =
    let least = ≤ℤ-times (hi -ℤ pos width) lo d (omega (arith, ints, narrow)) in
    omega (arith, linear, least, e.above_lo)

module _ (law : RangeHoldsEach) (inputs : StormInputs) (detail : Option ℕ) (plans : RosterView → List View → List (List ℕ)) (text : List ℕ)
    (study : IsRightStudy inputs detail plans text) (solutions : ℕ → Solution) (solve : AreStepSolutions inputs solutions) where
  abbrev case : Lists
  case = inputs.case

  abbrev width : ℕ
  width = width_asked inputs

  abbrev views : List View
  views = study.views

  module _ (place : ℕ) (inside : place < length (elements_of case).list) where
    abbrev holds_at : (number : ℕ) → Ends → Type 0
    holds_at number e = Encloses e.low e.high ((solutions number).current place) (1000000 * (solutions number).denominator)

    held : (number : ℕ) → StandsAt inputs place number → IsSomeAnd (range_of (standing_ends place views)) (holds_at number)
    held zero stands = absurd (omega (arith, stands.own.least))
    held (suc i) stands =
        let there : i < length views = omega (arith, stands.own.most, study.right.one_each) in
        let found = interval_of (standing_at_step inputs (suc i)) (storm_volts inputs (suc i)) place (element_at (view_at views i) place) ((study.right.right i there).right.elements place inside) stands.stands in
        law place views (view_at views i) found.0 ((solutions (suc i)).current place) (1000000 * (solutions (suc i)).denominator) (Contains-get_or views i (blank_view 0 0 0) there) found.1
        (found.2 (solutions (suc i)) (solve (suc i) stands.own))

    -- a step whose interval this is
    step_with : (e : Ends) → Contains (standing_ends place views) e → (number : ℕ) × StandsAt inputs place number × holds_at number e × IsAtMostWide width e.low e.high
    step_with e among =
        let found = shown_at place views e among in
        let number = suc found.0 in
        let own : IsStepOf inputs number = record { least = omega arith; most = omega (arith, found.1, study.right.one_each) } in
        let right = subst (IsRightElement (standing_at_step inputs number) (storm_volts inputs number) place) found.2 ((study.right.right found.0 found.1).right.elements place inside) in
        let narrow = All-get_or (IsNarrowView case width) views found.0 (blank_view 0 0 0) found.1 study.narrow in
        (number, record { own = own; stands = right.0 }, right.1 (solutions number) (solve number own), subst (IsNoWider width) found.2 (narrow.elements place inside))

    true_range : (es : List Ends) → standing_ends place views ≡ es → IsTrueRangeIfAny inputs solutions place (range_of es)
    true_range [] is = λ number stands. subst (λ es. IsSomeAnd (range_of es) (holds_at number)) is (held number stands)
    true_range (first ∷ others) is =
        let range = range_among first others in
        let at_low = reached (λ e. e.low) first others range.low (fold-int_min_reached first.low (map (λ e. e.low) others) range.low refl) in
        let at_high = reached (λ e. e.high) first others range.high (fold-int_max_reached first.high (map (λ e. e.high) others) range.high refl) in
        let low = step_with at_low.0 (subst (λ es. Contains es at_low.0) (sym is) at_low.1) in
        let high = step_with at_high.0 (subst (λ es. Contains es at_high.0) (sym is) at_high.1) in
        let current : ℕ → ℤ = λ number. (solutions number).current place in
        let times : ℕ → ℕ = λ number. 1000000 * (solutions number).denominator in
        record {
          holds = λ number stands. subst (λ es. IsSomeAnd (range_of es) (holds_at number)) is (held number stands);
          near_low = (low.0, low.1, subst (λ z. current low.0 ≤ℤ ((z +ℤ pos width) *ℤ pos (times low.0))) at_low.2 (near_low at_low.0.low at_low.0.high (current low.0) (times low.0) width low.3 low.2));
          near_high = (high.0, high.1, subst (λ z. ((z -ℤ pos width) *ℤ pos (times high.0)) ≤ℤ current high.0) at_high.2 (near_high at_high.0.low at_high.0.high (current high.0) (times high.0) width high.3 high.2));
        }

  abbrev none : Element
  none = earthing 0 0

  abbrev earthings : List Element
  earthings = earthings_of case

  abbrev seat_of : ℕ × Element → Seat
  seat_of p = seat_at case p.0 p.1

  -- the earthing at a place of the roster
  seat_is : (place : ℕ) (d : Seat) → place < length earthings → get_or (seats_of case) place d ≡ seat_at case place (get_or earthings place none)
  seat_is place d within =
      get_or-map seat_of (enumerate_from 0 earthings) place (0, none) d (omega (arith, within, length-enumerate_from 0 earthings))
      ∙ ap seat_of (get_or-enumerate_from 0 earthings place (0, none) within)
      ∙ ap (λ k. seat_at case k (get_or earthings place none)) (zero-add place)

  count : length (seats_of case) ≡ length earthings
  count = length-map (enumerate_from 0 earthings) seat_of ∙ length-enumerate_from 0 earthings

  pub true_earthings : HasTrueLines (length earthings) (IsTrueEarthing inputs solutions) (earth_text (roster_of case inputs.question.event) views)
  true_earthings = record {
    lines = map (seat_line views) (seats_of case);
    text_is = refl;
    one_each = length-map (seats_of case) (seat_line views) ∙ count;
    each = λ place within.
        let element = get_or earthings place none in
        let first = first_element case place none within in
        let line = get_or-map (seat_line views) (seats_of case) place (seat_at case 0 none) [] (omega (arith, within, count)) ∙ ap (seat_line views) (seat_is place (seat_at case 0 none) within) in
        record {
          earthing = element;
          own = first.1;
          range = range_of (standing_ends place views);
          line_is = line;
          is_true = true_range place first.0 (standing_ends place views) refl;
        };
  }
