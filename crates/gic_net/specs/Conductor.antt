-- What is worked out once of an element.
use Rattle.gic_model.specs.declared.parts.Element.{Element}
use Rattle.gic_model.specs.Conductance.{conductance_down, conductance_up}
use Rattle.gic_net.specs.declared.conductor.Conductor.{Conductor}

-- the resistance of an element, which a divisor is seen as, and its conductance
abbrev pub conductor_of : Element → Conductor
conductor_of e = record { divisor = e.micro_ohm; down = conductance_down e; up = conductance_up e }
