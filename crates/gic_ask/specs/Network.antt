-- What a mode over the network of a case is given.
use Rattle.gic_inputs.specs.declared.inputs.Inputs.{Inputs}
use Rattle.gic_ask.specs.declared.request.NetworkAsked.{NetworkAsked}

-- the inputs of a mode that is asked this of the network
abbrev pub inputs_over : {Q : Type 0} → Q → NetworkAsked → Inputs Q
inputs_over question a = record { case = a.case; switchings = a.switchings; question = question }
