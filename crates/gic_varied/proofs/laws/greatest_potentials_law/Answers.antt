use Rattle.gic_varied.proofs.GreatestPotentials.{at_most, at_least, certified_above, certified_below}
use Rattle.gic_varied.proofs.Regrounded.{solves_with}
use Rattle.gic_varied.proofs.laws.greatest_potentials_law.Goals as goal

pub returns-clause-greatest : goal.returns-clause-greatest
returns-clause-greatest c network stands ranges ohm volts greatest varied k limits earthed quiet inside refers raising varies live =
    at_most network stands ranges ohm volts greatest varied k limits earthed quiet inside (solves_with network stands ohm volts greatest refers) raising varies live

pub returns-clause-least : goal.returns-clause-least
returns-clause-least c network stands ranges ohm volts least varied k limits earthed quiet inside refers lowering varies live =
    at_least network stands ranges ohm volts least varied k limits earthed quiet inside (solves_with network stands ohm volts least refers) lowering varies live

pub returns-clause-certified_above : goal.returns-clause-certified_above
returns-clause-certified_above c network stands ranges corner volts unit ends open_height varied k limits corner_limits earthed quiet inside modest holds few varies live =
    certified_above network stands ranges corner volts unit ends open_height varied limits corner_limits earthed quiet inside modest holds varies few k live

pub returns-clause-certified_below : goal.returns-clause-certified_below
returns-clause-certified_below c network stands ranges corner volts unit ends open_height varied k limits corner_limits earthed quiet inside modest holds few varies live =
    certified_below network stands ranges corner volts unit ends open_height varied limits corner_limits earthed quiet inside modest holds varies few k live
