-- What the writer is given. For contracts.
use Rattle.std.specs.Prelude.{◌≡◌, length, Option, None, Some, IfSome}
use Rattle.gic_case.specs.Lists.{Lists}
use Rattle.gic_study_text.specs.StudyText.{DetailView}
use Rattle.gic_study_text.specs.declared.text.Detail.{Detail}

-- what is lent of a step in detail
abbrev pub lent : Detail → DetailView
lent detail = record { fields = detail.fields.now; view = detail.view.now }

-- the same where there may be none
abbrev pub lent_detail : Option Detail → Option DetailView
lent_detail None = None
lent_detail (Some detail) = Some (lent detail)

-- the step has one field for each zone of the case
abbrev pub HasZonesOf : Lists → DetailView → Type 0
HasZonesOf case d = length d.fields ≡ length case.zones

-- so if there is such a step
abbrev pub HasZones : Lists → Option DetailView → Type 0
HasZones case detail = IfSome detail (HasZonesOf case)
