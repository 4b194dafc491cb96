-- The sides of transformers: the terminals from which their windings run.
use Rattle.std.specs.Prelude.{ℕ, ◌==◌, nat_le, List, [], ◌∷◌, Bool, true, not, ◌&&◌}
use Rattle.std.specs.List.{list_all}
use Rattle.gic_case.specs.Lists.{substation_at}
use Rattle.gic_case.specs.declared.item.Bus.{Bus}
use Rattle.gic_case.specs.declared.winding.Winding.{Winding}

-- each of these windings runs from a bus of its own
abbrev pub sides_differ : List Winding → Bool
sides_differ [] = true
sides_differ (w ∷ ws) = list_all (λ v. not (w.from.bus == v.from.bus)) ws && sides_differ ws

-- they run from buses of one substation
abbrev pub are_together : List Bus → List Winding → Bool
are_together buses [] = true
are_together buses (w ∷ ws) = list_all (λ v. substation_at buses w.from.bus == substation_at buses v.from.bus) ws

-- no side's voltage is above the high one
abbrev pub are_ordered : (high_volts : ℕ) → List Winding → Bool
are_ordered high_volts = list_all (λ w. nat_le w.from.volts high_volts)
