-- Views that are told another number and another time, and fields of a step.
use Rattle.std.proofs.Common.{◌≡◌, ℕ, ◌<◌, List, length, ℤ, neg_ℤ, arith, ◌∙◌}
use Rattle.std.specs.Prelude.{All}
use Rattle.std.specs.Int.{w128}
use Rattle.std.specs.List.{range_with_len}
use Rattle.std.proofs.lemmas.Int.{ints, fits_signed_from_abs}
use Rattle.std.proofs.lemmas.List.{length-map}
use Rattle.std.proofs.lemmas.List.FromFn.{length-range_with_len}
use Rattle.std.proofs.lemmas.List.Elements.{All-from_get_or}
use Rattle.gic_fixed.specs.Ends.{Ends, zero_ends}
use Rattle.gic_case.specs.Lists.{Lists}
use Rattle.gic_view.specs.Bounds.{FitsView}
use Rattle.gic_view.specs.View.{View, effective_at}
use Rattle.gic_effective.specs.Narrow.{IsNarrowView}
use Rattle.gic_effective.specs.RightView.{IsRightView}
use Rattle.gic_model.specs.Sums.{Placed}
use Rattle.gic_view.specs.Absolute.{HasAbsolute}
use Rattle.gic_induce.specs.LineVolts.{volts_of}
use Rattle.gic_model.specs.Voltages.{number_at}
use Rattle.gic_winding.specs.ElementList.{elements_of}
use Rattle.gic_course.specs.Views.{IsShownIn}
use Rattle.gic_storm.specs.declared.row.StormRow.{StormRow}
use Rattle.gic_storm.specs.StepFields.{field_at_step, fields_at_step}

-- the view stays narrow
narrow_told : (case : Lists) (width : ℕ) (view : View) (number time : ℕ) → IsNarrowView case width view → IsNarrowView case width (record view { number = number; time = time })
narrow_told case width view number time h = record {
  lengths = record { nodes = h.lengths.nodes; elements = h.lengths.elements; transformers = h.lengths.transformers };
  nodes = h.nodes;
  elements = h.elements;
  effective = h.effective;
}

-- and right
right_told : (case : Lists) (standing : List Placed) (volts : ℕ → ℤ) (view : View) (number time : ℕ) → IsRightView case standing volts view → IsRightView case standing volts (record view { number = number; time = time })
right_told case standing volts view number time h = record {
  lengths = record { nodes = h.lengths.nodes; elements = h.lengths.elements; transformers = h.lengths.transformers };
  nodes = h.nodes;
  elements = h.elements;
  effective = h.effective;
}

-- so all that it shows stays
pub shown_told : (case : Lists) (standing : List Placed) (fields : List (ℤ × ℤ)) (width : ℕ) (view : View) (number time : ℕ) → IsShownIn case standing fields width view → IsShownIn case standing fields width (record view { number = number; time = time })
shown_told case standing fields width view number time h = record {
  right = right_told case standing (number_at (volts_of case fields (elements_of case).list)) view number time h.right;
  narrow = narrow_told case width view number time h.narrow;
  absolutes = h.absolutes;
  driven = h.driven;
}

-- ends that a view keeps leave space
pub has_absolute : (e : Ends) → FitsView e → HasAbsolute e
has_absolute e small = fits_signed_from_abs w128 (neg_ℤ e.low) (omega (arith, ints, small.low))

-- in each interval of a view
pub have_absolutes : (view : View) → ((t : ℕ) → t < length view.effective → FitsView (effective_at view t)) → All HasAbsolute view.effective
have_absolutes view small = All-from_get_or HasAbsolute view.effective zero_ends (λ t within. has_absolute (effective_at view t) (small t within))

-- there is a field for each zone
pub fields-count : (zones : ℕ) (rows : List StormRow) → length (fields_at_step zones rows) ≡ zones
fields-count zones rows = length-map (range_with_len 0 zones) (field_at_step rows) ∙ length-range_with_len 0 zones
