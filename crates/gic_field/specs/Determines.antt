-- That the text of the mode determines what it shows.
use Rattle.std.specs.Prelude.{◌≡◌, ℕ, ◌<◌, ◌^◌, ℤ, FitsSigned}
use mir.Syntax.{w32}
use Rattle.gic_case.specs.Lists.{Lists}
use Rattle.gic_view.specs.View.{View}
use Rattle.gic_text.specs.Lines.{lines_text}
use Rattle.gic_effective.specs.ViewLengths.{HasViewLengths}
use Rattle.gic_report.specs.Fits.{HasNames, IsViewInRange}
use Rattle.gic_field.specs.FieldText.{field_report}

-- a field, a width, a threshold and a view that can be shown of a case: numbers of their types, and lists as long as the case's
pub record AreShownOf (case : Lists) (north east : ℤ) (width threshold : ℕ) (view : View) : Type 0 where
  pub lengths : HasViewLengths case view
  pub north_fits : FitsSigned w32 north
  pub east_fits : FitsSigned w32 east
  pub width_fits : width < 2 ^ 32
  pub threshold_fits : threshold < 2 ^ 32
  pub ends_fit : IsViewInRange view

-- all that is printed is equal: the number and the time of a view are not
pub record ShowsSame (north east : ℤ) (width threshold : ℕ) (view : View) (north' east' : ℤ) (width' threshold' : ℕ) (view' : View) : Type 0 where
  pub same_north : north ≡ north'
  pub same_east : east ≡ east'
  pub same_width : width ≡ width'
  pub same_threshold : threshold ≡ threshold'
  pub same_nodes : view.nodes ≡ view'.nodes
  pub same_elements : view.elements ≡ view'.elements
  pub same_effective : view.effective ≡ view'.effective

-- equal texts on one case show the same
abbrev pub TextDeterminesField : Type 0
TextDeterminesField = (case : Lists) → HasNames case → (north east : ℤ) (width threshold : ℕ) (view : View) (north' east' : ℤ) (width' threshold' : ℕ) (view' : View) →
    AreShownOf case north east width threshold view → AreShownOf case north' east' width' threshold' view' →
    lines_text (field_report case north east width threshold view) ≡ lines_text (field_report case north' east' width' threshold' view') →
    ShowsSame north east width threshold view north' east' width' threshold' view'
