-- A view of certified rows is right and narrow.
use Rattle.std.proofs.Common.{◌≡◌, ℕ, zero, suc, ◌*◌, ◌<◌, ◌≤◌, Bool, true, false, Some, List, length, ℤ, pos, ◌+ℤ◌, ◌*ℤ◌, arith, refl, ap, ap₂, sym, subst, ◌∙◌}
use Rattle.std.proofs.lemmas.List.Elements.{All-get_or}
use lib.IntN.{*ℤ_comm, *ℤ-zero}
use Rattle.std.specs.Int.{int_min, int_max}
use Rattle.gic_case.specs.Lists.{Lists}
use Rattle.gic_fixed.specs.Encloses.{Encloses}
use Rattle.gic_fixed.specs.Ends.{Ends, zero_ends, IsAtMostWide}
use Rattle.gic_fixed.specs.Rounding.{floor_div, ceil_div}
use Rattle.gic_fixed.proofs.Widths.{wider}
use Rattle.gic_induce.specs.Fields.{IsField, no_field, zone_field}
use Rattle.gic_induce.specs.LineVolts.{volts_of}
use Rattle.gic_model.specs.declared.parts.Item.{Item}
use Rattle.gic_model.specs.Earthing.{AreEarthed}
use Rattle.gic_model.specs.Limits.{IsWithinLimits}
use Rattle.gic_model.specs.Solution.{Solution, IsSolution}
use Rattle.gic_model.specs.Standing.{is_live, is_standing, standing_elements}
use Rattle.gic_model.specs.Sums.{Placed}
use Rattle.gic_model.specs.Voltages.{number_at}
use Rattle.gic_view.specs.View.{View}
use Rattle.gic_winding.specs.ElementList.{elements_of}
use Rattle.gic_winding.specs.Weights.{transformer_at, weighted_windings}
use Rattle.gic_effective.specs.Narrow.{IsNarrowView, IsNoWider}
use Rattle.gic_effective.specs.RightView.{IsRightView, IsRightNode, IsRightElement, IsRightEffective}
use Rattle.gic_effective.specs.Weighted.{effective_numerator, effective_denominator}
use Rattle.gic_superpose.proofs.BaseVolts.{volts_combine}
use Rattle.gic_superpose.specs.BaseFields.{north_volts, east_volts}
use Rattle.gic_superpose.specs.Sums.{sum_below}
use Rattle.gic_superpose.specs.Superposed.{ZoneEnds, no_zone_ends, zone_at, zone_low, zone_high, superposed}
use Rattle.gic_superpose.specs.Quantities.{IsLinear, AreMadeOf}
use Rattle.gic_superpose.proofs.Linear.{potential_linear, current_linear, weighted_linear}
use Rattle.gic_superpose.proofs.Enclosing.{superposed_held}
use Rattle.gic_superpose.proofs.Widths.{superposed_narrow}
use Rattle.gic_base_views.specs.BaseRows.{BaseRows, IsCertifiedZone, AreCertifiedRows}
use Rattle.gic_base_views.specs.Superposed.{shown_where, AreFieldsOf, IsSuperposedView}

-- over plain numbers
zero_part : (z : ℤ) → (int_min (pos 0 *ℤ z) (pos 0 *ℤ z) ≡ pos 0) × (int_max (pos 0 *ℤ z) (pos 0 *ℤ z) ≡ pos 0)
zero_part z =
    let none : pos 0 *ℤ z ≡ pos 0 = *ℤ_comm (pos 0) z ∙ *ℤ-zero z in
    (ap₂ int_min none none, ap₂ int_max none none)

sum_below-zero : (f : ℕ → ℤ) (n : ℕ) → ((i : ℕ) → i < n → f i ≡ pos 0) → sum_below f n ≡ pos 0
sum_below-zero f zero h = refl
sum_below-zero f (suc n) h = ap₂ (λ x y. x +ℤ y) (sum_below-zero f n (λ i less. h i (omega arith))) (h n (omega arith))

zone_zero : (field : ℤ × ℤ) (zone : ZoneEnds) → zone ≡ no_zone_ends → (zone_low field zone ≡ pos 0) × (zone_high field zone ≡ pos 0)
zone_zero field zone is = (
  ap (zone_low field) is ∙ ap₂ (λ x y. x +ℤ y) (zero_part field.0).0 (zero_part field.1).0,
  ap (zone_high field) is ∙ ap₂ (λ x y. x +ℤ y) (zero_part field.0).1 (zero_part field.1).1,
)

-- rows of 0 alone give 0 alone
superposed_zero : (fields : List (ℤ × ℤ)) (row : List ZoneEnds) → ((zone : ℕ) → zone < length fields → zone_at row zone ≡ no_zone_ends) → superposed fields row ≡ zero_ends
superposed_zero fields row none =
    let low = sum_below-zero (λ zone. zone_low (zone_field fields zone) (zone_at row zone)) (length fields) (λ zone less. (zone_zero (zone_field fields zone) (zone_at row zone) (none zone less)).0) in
    let high = sum_below-zero (λ zone. zone_high (zone_field fields zone) (zone_at row zone)) (length fields) (λ zone less. (zone_zero (zone_field fields zone) (zone_at row zone) (none zone less)).1) in
    ap₂ (λ (l h : ℤ). record { low = floor_div l (pos 20000000000); high = ceil_div h (pos 20000000000) }) low high

module _ (case : Lists) (stands : Item → Bool) (fields : List (ℤ × ℤ)) (rows : BaseRows) (width : ℕ)
    (limits : IsWithinLimits (elements_of case)) (earthed : AreEarthed (standing_elements (elements_of case) stands)) (given : AreFieldsOf case fields)
    (certified : AreCertifiedRows case (standing_elements (elements_of case) stands) rows) (least : 2 ≤ width) where
  abbrev standing : List Placed
  standing = standing_elements (elements_of case) stands

  abbrev volts : ℕ → ℤ
  volts = number_at (volts_of case fields (elements_of case).list)

  within_zones : (zone : ℕ) → zone < length fields → zone < length case.zones
  within_zones zone less = subst (λ (n : ℕ). zone < n) given.zones less

  made : AreMadeOf fields (north_volts case (elements_of case).list) (east_volts case (elements_of case).list) volts
  made place =
      volts_combine case fields given.zones (elements_of case).list place
      ∙ ap (sum_below (λ zone. (zone_field fields zone).0 *ℤ north_volts case (elements_of case).list zone place +ℤ (zone_field fields zone).1 *ℤ east_volts case (elements_of case).list zone place)) (sym given.zones)

  -- of a row: it is certified in each zone
  abbrev IsCertifiedRow : (Solution → ℤ) → (over : ℕ) → List ZoneEnds → Type 0
  IsCertifiedRow quantity over row = (zone : ℕ) → zone < length case.zones → IsCertifiedZone case standing quantity over zone row

  held : (quantity : Solution → ℤ) (over : ℕ) (row : List ZoneEnds) → IsLinear standing quantity → IsCertifiedRow quantity over row → (s : Solution) → IsSolution standing volts s
      → Encloses (superposed fields row).low (superposed fields row).high (quantity s) (1000000 * over * s.denominator)
  held quantity over row is_linear is_certified s solves =
      superposed_held (elements_of case) stands quantity over fields (north_volts case (elements_of case).list) (east_volts case (elements_of case).list) row limits earthed is_linear
      (λ zone less. (is_certified zone (within_zones zone less)).holds) volts made s solves

  narrow : (quantity : Solution → ℤ) (over : ℕ) (row : List ZoneEnds) → IsCertifiedRow quantity over row → IsAtMostWide width (superposed fields row).low (superposed fields row).high
  narrow quantity over row is_certified =
      wider (superposed fields row).low (superposed fields row).high 2 width least
      (superposed_narrow fields row given.few (λ zone less. All-get_or IsField fields zone no_field less given.within) (λ zone less. (is_certified zone (within_zones zone less)).narrow))

  -- a node or an element: as it shows
  right_node : (k : ℕ) (b : Bool) → is_live standing k ≡ b → IsRightNode standing volts k (shown_where b (superposed fields (rows.nodes k)))
  right_node k true live = (live, λ s solves. held (λ s. s.potential k) 1 (rows.nodes k) (potential_linear standing k live) (λ zone less. (certified zone less).nodes k live) s solves)
  right_node k false dead = dead

  narrow_node : (k : ℕ) (b : Bool) → is_live standing k ≡ b → IsNoWider width (shown_where b (superposed fields (rows.nodes k)))
  narrow_node k true live = narrow (λ s. s.potential k) 1 (rows.nodes k) (λ zone less. (certified zone less).nodes k live)
  narrow_node k false dead = tt

  right_element : (place : ℕ) (b : Bool) → is_standing standing place ≡ b → IsRightElement standing volts place (shown_where b (superposed fields (rows.elements place)))
  right_element place true is = (is, λ s solves. held (λ s. s.current place) 1 (rows.elements place) (current_linear standing place) (λ zone less. (certified zone less).elements place is) s solves)
  right_element place false none = none

  narrow_element : (place : ℕ) (b : Bool) → is_standing standing place ≡ b → IsNoWider width (shown_where b (superposed fields (rows.elements place)))
  narrow_element place true is = narrow (λ s. s.current place) 1 (rows.elements place) (λ zone less. (certified zone less).elements place is)
  narrow_element place false none = tt

  pub right_effective : (t : ℕ) → t < length case.transformers → IsRightEffective case standing volts t (superposed fields (rows.effective t))
  right_effective t less = record {
    holds = λ s solves.
        let same : 1000000 * (3 * (transformer_at case t).high_volts) * s.denominator ≡ effective_denominator case t s = omega arith in
        subst (λ (m : ℕ). Encloses (superposed fields (rows.effective t)).low (superposed fields (rows.effective t)).high (effective_numerator case s t) m) same
        (held (λ s. effective_numerator case s t) (3 * (transformer_at case t).high_volts) (rows.effective t) (weighted_linear standing (weighted_windings case t)) (λ zone within. ((certified zone within).effective t less).certified) s solves);
    zeroed = λ none. superposed_zero fields (rows.effective t) (λ zone within. ((certified zone (within_zones zone within)).effective t less).zeroed none);
  }

  pub narrow_effective : (t : ℕ) → t < length case.transformers → IsAtMostWide width (superposed fields (rows.effective t)).low (superposed fields (rows.effective t)).high
  narrow_effective t less =
      narrow (λ s. effective_numerator case s t) (3 * (transformer_at case t).high_volts) (rows.effective t) (λ zone within. ((certified zone within).effective t less).certified)

  -- the whole view
  pub right_view : (view : View) → IsSuperposedView case standing fields rows view → IsRightView case standing volts view
  right_view view shown = record {
    lengths = shown.lengths;
    nodes = λ k less. subst (IsRightNode standing volts k) (sym (shown.nodes k less)) (right_node k (is_live standing k) refl);
    elements = λ place less. subst (IsRightElement standing volts place) (sym (shown.elements place less)) (right_element place (is_standing standing place) refl);
    effective = λ t less. subst (IsRightEffective case standing volts t) (sym (shown.effective t less)) (right_effective t less);
  }

  pub narrow_view : (view : View) → IsSuperposedView case standing fields rows view → IsNarrowView case width view
  narrow_view view shown = record {
    lengths = shown.lengths;
    nodes = λ k less. subst (IsNoWider width) (sym (shown.nodes k less)) (narrow_node k (is_live standing k) refl);
    elements = λ place less. subst (IsNoWider width) (sym (shown.elements place less)) (narrow_element place (is_standing standing place) refl);
    effective = λ t less. subst (λ (e : Ends). IsNoWider width (Some e)) (sym (shown.effective t less)) (narrow_effective t less);
  }
