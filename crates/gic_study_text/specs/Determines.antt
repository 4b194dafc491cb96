-- That the text of a study determines what it shows.
use Rattle.std.specs.Prelude.{◌≡◌, ℕ, ◌<◌, ◌^◌, ℤ, FitsSigned, List, length, All, Option, IfSome}
use mir.Syntax.{w32}
use Rattle.gic_case.specs.Lists.{Lists}
use Rattle.gic_view.specs.View.{View}
use Rattle.gic_effective.specs.ViewLengths.{HasViewLengths}
use Rattle.gic_report.specs.Fits.{HasNames, IsViewInRange}
use Rattle.gic_study_text.specs.StudyText.{DetailView, study_text}
use Rattle.gic_study_text.specs.Given.{HasZonesOf}

-- the parts of a field are numbers of 32 bits
pub record IsFieldInRange (field : ℤ × ℤ) : Type 0 where
  pub north_fits : FitsSigned w32 field.0
  pub east_fits : FitsSigned w32 field.1

-- a step in detail that can be shown of a case: numbers of their types, and lists as long as the case's
pub record IsDetailOf (case : Lists) (d : DetailView) : Type 0 where
  pub zones : HasZonesOf case d
  pub lengths : HasViewLengths case d.view
  pub number_fits : d.view.number < 2 ^ 32
  pub time_fits : d.view.time < 2 ^ 32
  pub fields_fit : All IsFieldInRange d.fields
  pub ends_fit : IsViewInRange d.view

-- fewer than 2^64 texts, each of fewer than 2^64 bytes, as any memory holds
pub record AreTexts (texts : List (List ℕ)) : Type 0 where
  pub few : length texts < 2 ^ 64
  pub short : All (λ text. length text < 2 ^ 64) texts

-- what a study can show of a case
pub record AreShownOf (case : Lists) (width threshold steps : ℕ) (detail : Option DetailView) (peaks : View) (texts : List (List ℕ)) : Type 0 where
  pub width_fits : width < 2 ^ 32
  pub threshold_fits : threshold < 2 ^ 32
  pub steps_fit : steps < 2 ^ 32
  pub detail_of : IfSome detail (IsDetailOf case)
  pub lengths : HasViewLengths case peaks
  pub ends_fit : IsViewInRange peaks
  pub texts_fit : AreTexts texts

-- all that is printed is equal: the number and the time of the peaks are not. A detail is equal in its number, its time, its fields and its intervals
pub record ShowsSame (width threshold steps : ℕ) (detail : Option DetailView) (peaks : View) (texts : List (List ℕ))
    (width' threshold' steps' : ℕ) (detail' : Option DetailView) (peaks' : View) (texts' : List (List ℕ)) : Type 0 where
  pub same_width : width ≡ width'
  pub same_threshold : threshold ≡ threshold'
  pub same_steps : steps ≡ steps'
  pub same_detail : detail ≡ detail'
  pub same_nodes : peaks.nodes ≡ peaks'.nodes
  pub same_elements : peaks.elements ≡ peaks'.elements
  pub same_effective : peaks.effective ≡ peaks'.effective
  pub same_texts : texts ≡ texts'

-- equal texts on one case show the same
abbrev pub TextDeterminesStudy : Type 0
TextDeterminesStudy = (case : Lists) → HasNames case →
    (width threshold steps : ℕ) (detail : Option DetailView) (peaks : View) (texts : List (List ℕ))
    (width' threshold' steps' : ℕ) (detail' : Option DetailView) (peaks' : View) (texts' : List (List ℕ)) →
    AreShownOf case width threshold steps detail peaks texts → AreShownOf case width' threshold' steps' detail' peaks' texts' →
    study_text case width threshold steps detail peaks texts ≡ study_text case width' threshold' steps' detail' peaks' texts' →
    ShowsSame width threshold steps detail peaks texts width' threshold' steps' detail' peaks' texts'
