-- The roster of a case: what the monitors of a study are told of it.
use Rattle.std.specs.Prelude.{ℕ, List, map}
use Rattle.std.specs.List.{enumerate_from}
use Rattle.gic_case.specs.Lists.{Lists}
use Rattle.gic_case.specs.declared.item.Transformer.{Transformer}
use Rattle.gic_model.specs.declared.parts.Element.{Element}
use Rattle.gic_winding.specs.ElementList.{earthings_of, item_name}
use Rattle.gic_criteria.specs.declared.event.Event.{Event}
use Rattle.gic_criteria.specs.Event.{threshold_of}
use Rattle.gic_monitor.specs.declared.roster.Seat.{Seat}
use Rattle.gic_monitor.specs.declared.roster.Rated.{Rated}
use Rattle.gic_monitor.specs.RosterView.{RosterView}

-- an element, named as in the report, with its place among the elements
abbrev pub seat_at : Lists → (place : ℕ) → Element → Seat
seat_at case place e = record { name = item_name case e.item; element = record { 0 = place } }

-- the earthings of the case, in their order: they are its first elements
abbrev pub seats_of : Lists → List Seat
seats_of case = map (λ p. seat_at case p.0 p.1) (enumerate_from 0 (earthings_of case))

-- a transformer, with the rated voltage of its high side
abbrev pub rated_of : Transformer → Rated
rated_of t = record { name = t.name; high_volts = t.high_volts }

-- the threshold of the event, the earthings of the case, and its transformers in order
abbrev pub roster_of : Lists → Event → RosterView
roster_of case event = record { threshold = threshold_of event; seats = seats_of case; units = map rated_of case.transformers }
