-- What a screen needs, and what it leaves. For contracts.
use Rattle.std.specs.Prelude.{◌≡◌, ℕ, ◌<◌, List, length, ℤ, pos}
use Rattle.gic_case.specs.Lists.{Lists}
use Rattle.gic_effective.specs.ViewLengths.{HasViewLengths}
use Rattle.gic_induce.specs.LineVolts.{volts_of}
use Rattle.gic_model.specs.Sums.{Placed}
use Rattle.gic_criteria.specs.declared.event.Event.{Event}
use Rattle.gic_criteria.specs.Event.{field_of}
use Rattle.gic_winding.specs.ElementList.{elements_of}
use Rattle.gic_uniform.specs.Ready.{IsWorkspaceForCase}
use Rattle.gic_uniform.specs.Uniform.{uniform_field}
use Rattle.gic_worst.specs.declared.fields.FieldVolts.{FieldVolts}
use Rattle.gic_worst.specs.declared.screening.ScreenWorkspace.{ScreenWorkspace}
use Rattle.gic_worst.specs.Rows.{ScreenRowView, screen_row_at}
use Rattle.gic_worst.specs.RightRows.{IsRightRow}

-- the voltages of a case's elements in the field of an event, to the north and to the east
pub record AreOfEvent (case : Lists) (event : Event) (volts : FieldVolts) : Type 0 where
  pub in_north : volts.north ≡ volts_of case (uniform_field case (field_of event) (pos 0)) (elements_of case).list
  pub in_east : volts.east ≡ volts_of case (uniform_field case (pos 0) (field_of event)) (elements_of case).list

-- a voltage for each of this many elements
pub record AreVoltsFor (count : ℕ) (volts : FieldVolts) : Type 0 where
  pub north_count : length volts.north ≡ count
  pub east_count : length volts.east ≡ count

-- there is space for each node, element and transformer of the case
pub record IsScreenWorkspaceFor (case : Lists) (workspace : ScreenWorkspace) : Type 0 where
  pub solving : IsWorkspaceForCase case workspace.solving
  pub north_view : HasViewLengths case workspace.north
  pub east_view : HasViewLengths case workspace.east
  pub row_count : length workspace.rows ≡ length case.transformers

-- one right row a transformer
pub record AreScreened (case : Lists) (standing : List Placed) (north east : ℕ → ℤ) (width : ℕ) (rows : List ScreenRowView) : Type 0 where
  pub count : length rows ≡ length case.transformers
  pub right : (t : ℕ) → t < length case.transformers → IsRightRow case standing north east width t (screen_row_at rows t)
