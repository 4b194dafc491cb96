-- The peaks of right views enclose the greatest absolute values over the steps.
use Rattle.std.proofs.Common.{◌≡◌, ℕ, zero, suc, ◌*◌, ◌<◌, ◌≤◌, List, length, Option, Some, None, ℤ, pos, ◌*ℤ◌, ◌≤ℤ◌, unsigned_abs, refl, sym, subst, ◌∙◌, arith, inl, inr}
use Rattle.std.specs.Prelude.{IfSome, IsSome, IsNone, MatchOption, IsTrue, ⊤}
use Rattle.std.proofs.lemmas.Bool.{cases_lt}
use Rattle.std.proofs.lemmas.List.{get_or-map, get_or_past, length-map}
use Rattle.gic_case.specs.Lists.{Lists, node_names}
use Rattle.gic_fixed.specs.Encloses.{Encloses}
use Rattle.gic_fixed.specs.Ends.{Ends}
use Rattle.gic_model.specs.Solution.{Solution, IsSolution}
use Rattle.gic_model.specs.Standing.{IsLive, is_standing}
use Rattle.gic_model.specs.Sums.{Placed}
use Rattle.gic_storm.specs.Steps.{steps_in}
use Rattle.gic_view.specs.View.{View, node_at, element_at, effective_at}
use Rattle.gic_view.specs.Kept.{blank_view}
use Rattle.gic_winding.specs.ElementList.{elements_of}
use Rattle.gic_effective.specs.RightView.{IsRightNode, IsRightElement}
use Rattle.gic_effective.specs.ViewLengths.{HasViewLengths}
use Rattle.gic_effective.specs.Weighted.{effective_numerator, effective_denominator}
use Rattle.gic_view.specs.Peaks.{peak_of, shown_at_node, shown_at_element, shown_of_transformer, IsPeaksOf}
use Rattle.gic_view.specs.PeakLaws.{cell_at, AreEnclosed, EnclosesGreatest, PeakEnclosesGreatest, TransformerPeakIsPeak}
use Rattle.gic_inputs.specs.declared.inputs.StormInputs.{StormInputs}
use Rattle.gic_course.specs.Steps.{IsStepOf, standing_at_step, storm_volts}
use Rattle.gic_course.specs.Views.{AreRightViews, view_at}
use Rattle.gic_study_mode.specs.PeakEnclosure.{AreStepSolutions, EnclosesPeak, EnclosesPeakIfAny, EnclosesNodePeak, EnclosesElementPeak, EnclosesTransformerPeak, AreEnclosing}

-- an interval is there exactly where its step counts, and encloses n/d
abbrev IsCell : (Counts : Type 0) → ℤ → ℕ → Option Ends → Type 0
IsCell Counts n d None = Counts → ⊥
IsCell Counts n d (Some e) = Counts × Encloses e.low e.high n d

none_there : IsSome {T = Ends} None → ⊥
none_there some = grind (arith, some)

cell_counts : (Counts : Type 0) (n : ℤ) (d : ℕ) (cell : Option Ends) → IsCell Counts n d cell → IsSome cell → Counts
cell_counts Counts n d None own some = absurd (none_there some)
cell_counts Counts n d (Some e) own some = own.0

cell_there : (Counts : Type 0) (n : ℤ) (d : ℕ) (cell : Option Ends) → IsCell Counts n d cell → Counts → IsSome cell
cell_there Counts n d None own counts = absurd (own counts)
cell_there Counts n d (Some e) own counts = refl

cell_encloses : (Counts : Type 0) (n : ℤ) (d : ℕ) (cell : Option Ends) → IsCell Counts n d cell → IfSome cell (λ e. Encloses e.low e.high n d)
cell_encloses Counts n d None own = tt
cell_encloses Counts n d (Some e) own = own.1

not_none : (cell : Option Ends) → IsSome cell → IsNone cell → ⊥
not_none cell some none = grind (arith, some, none)

-- what is said of the step at each place holds at each step
module _ (inputs : StormInputs) (Counts : ℕ → Type 0) (n : ℕ → ℤ) (d : ℕ → ℕ) (cells : List (Option Ends)) (one_each : length cells ≡ length (steps_in inputs.storm.rows))
    (own : (place : ℕ) → place < length cells → IsCell (Counts (suc place)) (n (suc place)) (d (suc place)) (cell_at cells place)) where
  is_step : (place : ℕ) → place < length cells → IsStepOf inputs (suc place)
  is_step place within = record { least = omega arith; most = omega (arith, within, one_each) }

  -- a place past the end shows none
  inside : (place : ℕ) → IsSome (cell_at cells place) → place < length cells
  inside place some = elim (cases_lt place (length cells)) [
    | inl within ↦ within
    | inr past ↦ absurd (none_there (subst IsSome (get_or_past cells place None (omega (arith, past))) some))
  ]

  enclosed : AreEnclosed cells (λ place. n (suc place)) (λ place. d (suc place))
  enclosed place = elim (cases_lt place (length cells)) [
    | inl within ↦ cell_encloses (Counts (suc place)) (n (suc place)) (d (suc place)) (cell_at cells place) (own place within)
    | inr past ↦ subst (λ cell. IfSome cell (λ e. Encloses e.low e.high (n (suc place)) (d (suc place)))) (sym (get_or_past cells place None (omega (arith, past)))) tt
  ]

  -- the interval of a step that counts
  there : (place : ℕ) → place < length cells → Counts (suc place) → IsSome (cell_at cells place)
  there place within counts = cell_there (Counts (suc place)) (n (suc place)) (d (suc place)) (cell_at cells place) (own place within) counts

  -- over the steps in place of places
  no_step : ((k : ℕ) → IsNone (cell_at cells k)) → (number : ℕ) → IsStepOf inputs number → Counts number → ⊥
  no_step none zero step counts = omega (arith, step.least)
  no_step none (suc place) step counts = not_none (cell_at cells place) (there place (omega (arith, step.most, one_each)) counts) (none place)

  over_steps : (peak : Option Ends) → MatchOption peak ((k : ℕ) → IsNone (cell_at cells k)) (EnclosesGreatest cells (λ place. n (suc place)) (λ place. d (suc place))) → EnclosesPeakIfAny inputs Counts n d peak
  over_steps None none = no_step none
  over_steps (Some e) greatest = record {
    most = at_most;
    step = suc place;
    own = is_step place within;
    counts = cell_counts (Counts (suc place)) (n (suc place)) (d (suc place)) (cell_at cells place) (own place within) greatest.reached.1;
    least = greatest.reached.2;
  }
    where
      place : ℕ
      place = greatest.reached.0

      within : place < length cells
      within = inside place greatest.reached.1

      at_most : (number : ℕ) → IsStepOf inputs number → Counts number → pos (unsigned_abs (n number)) ≤ℤ (e.high *ℤ pos (d number))
      at_most zero step counts = absurd (omega (arith, step.least))
      at_most (suc here) step counts = greatest.most here (there here (omega (arith, step.most, one_each)) counts)

  pub over_cells : PeakEnclosesGreatest → EnclosesPeakIfAny inputs Counts n d (peak_of cells)
  over_cells law = over_steps (peak_of cells) (law cells (λ place. n (suc place)) (λ place. d (suc place)) enclosed)

-- what right views show
node_cell : (standing : List Placed) (volts : ℕ → ℤ) (k : ℕ) (s : Solution) (cell : Option Ends) → IsSolution standing volts s → IsRightNode standing volts k cell
    → IsCell (IsLive standing k) (s.potential k) (1000000 * s.denominator) cell
node_cell standing volts k s None solves right = λ live. grind (arith, right, live)
node_cell standing volts k s (Some e) solves right = (right.0, right.1 s solves)

element_cell : (standing : List Placed) (volts : ℕ → ℤ) (place : ℕ) (s : Solution) (cell : Option Ends) → IsSolution standing volts s → IsRightElement standing volts place cell
    → IsCell (IsTrue (is_standing standing place)) (s.current place) (1000000 * s.denominator) cell
element_cell standing volts place s None solves right = λ stands. grind (arith, right, stands)
element_cell standing volts place s (Some e) solves right = (right.0, right.1 s solves)

-- the interval of a transformer, which is never missing
some_peak : (inputs : StormInputs) (Counts : ℕ → Type 0) (n : ℕ → ℤ) (d : ℕ → ℕ) (peak : Option Ends) (e : Ends) → peak ≡ Some e → EnclosesPeakIfAny inputs Counts n d peak → EnclosesPeak inputs Counts n d e
some_peak inputs Counts n d peak e is has = subst (EnclosesPeakIfAny inputs Counts n d) is has

module _ (encloses : PeakEnclosesGreatest) (is_peak : TransformerPeakIsPeak) (inputs : StormInputs) (views : List View) (peaks : View) (right : AreRightViews inputs views)
    (peaks_are : IsPeaksOf views peaks) (lengths : HasViewLengths inputs.case peaks) (some : 1 ≤ length (steps_in inputs.storm.rows))
    (solutions : ℕ → Solution) (solve : AreStepSolutions inputs solutions) where
  abbrev pub case : Lists
  case = inputs.case

  abbrev pub no_view : View
  no_view = blank_view 0 0 0

  step_at_place : (place : ℕ) → place < length views → IsStepOf inputs (suc place)
  step_at_place place within = record { least = omega arith; most = omega (arith, within, right.one_each) }

  node_peaks : (k : ℕ) → k < length (node_names case) → EnclosesNodePeak inputs solutions peaks k
  node_peaks k within =
      let cells = shown_at_node views k in
      let many : length cells ≡ length views = length-map views (λ view. node_at view k) in
      subst (EnclosesPeakIfAny inputs (λ number. IsLive (standing_at_step inputs number) k) (λ number. (solutions number).potential k) (λ number. 1000000 * (solutions number).denominator))
      (sym (peaks_are.nodes k (omega (arith, within, lengths.nodes))))
      (over_cells inputs (λ number. IsLive (standing_at_step inputs number) k) (λ number. (solutions number).potential k) (λ number. 1000000 * (solutions number).denominator) cells (many ∙ right.one_each)
      (λ place inside.
      let there : place < length views = omega (arith, inside, many) in
      subst (IsCell (IsLive (standing_at_step inputs (suc place)) k) ((solutions (suc place)).potential k) (1000000 * (solutions (suc place)).denominator))
      (sym (get_or-map (λ view. node_at view k) views place no_view None there))
      (node_cell (standing_at_step inputs (suc place)) (storm_volts inputs (suc place)) k (solutions (suc place)) (node_at (view_at views place) k) (solve (suc place) (step_at_place place there)) ((right.right place there).right.nodes k within)))
      encloses)

  element_peaks : (e : ℕ) → e < length (elements_of case).list → EnclosesElementPeak inputs solutions peaks e
  element_peaks e within =
      let cells = shown_at_element views e in
      let many : length cells ≡ length views = length-map views (λ view. element_at view e) in
      subst (EnclosesPeakIfAny inputs (λ number. IsTrue (is_standing (standing_at_step inputs number) e)) (λ number. (solutions number).current e) (λ number. 1000000 * (solutions number).denominator))
      (sym (peaks_are.elements e (omega (arith, within, lengths.elements))))
      (over_cells inputs (λ number. IsTrue (is_standing (standing_at_step inputs number) e)) (λ number. (solutions number).current e) (λ number. 1000000 * (solutions number).denominator) cells (many ∙ right.one_each)
      (λ place inside.
      let there : place < length views = omega (arith, inside, many) in
      subst (IsCell (IsTrue (is_standing (standing_at_step inputs (suc place)) e)) ((solutions (suc place)).current e) (1000000 * (solutions (suc place)).denominator))
      (sym (get_or-map (λ view. element_at view e) views place no_view None there))
      (element_cell (standing_at_step inputs (suc place)) (storm_volts inputs (suc place)) e (solutions (suc place)) (element_at (view_at views place) e) (solve (suc place) (step_at_place place there)) ((right.right place there).right.elements e within)))
      encloses)

  transformer_peaks : (t : ℕ) → t < length case.transformers → EnclosesTransformerPeak inputs solutions peaks t
  transformer_peaks t within =
      let cells = shown_of_transformer views t in
      let many : length cells ≡ length views = length-map views (λ view. Some (effective_at view t)) in
      some_peak inputs (λ number. ⊤) (λ number. effective_numerator case (solutions number) t) (λ number. effective_denominator case t (solutions number)) (peak_of cells) (effective_at peaks t)
      (is_peak views peaks t peaks_are (omega (arith, some, right.one_each)) (omega (arith, within, lengths.transformers)))
      (over_cells inputs (λ number. ⊤) (λ number. effective_numerator case (solutions number) t) (λ number. effective_denominator case t (solutions number)) cells (many ∙ right.one_each)
      (λ place inside.
      let there : place < length views = omega (arith, inside, many) in
      subst (IsCell ⊤ (effective_numerator case (solutions (suc place)) t) (effective_denominator case t (solutions (suc place))))
      (sym (get_or-map (λ view. Some (effective_at view t)) views place no_view None there))
      (tt, ((right.right place there).right.effective t within).holds (solutions (suc place)) (solve (suc place) (step_at_place place there))))
      encloses)

  pub enclosing : AreEnclosing inputs peaks solutions
  enclosing = record { nodes = node_peaks; elements = element_peaks; transformers = transformer_peaks }
