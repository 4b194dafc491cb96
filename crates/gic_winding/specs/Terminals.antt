-- What the theorem says of the currents at an autotransformer's terminals.
use Rattle.std.specs.Prelude.{◌≡◌, ◌≤◌, true, ℤ, pos, ◌+ℤ◌, ◌-ℤ◌, ◌*ℤ◌}
use Rattle.gic_case.specs.declared.item.Transformer.{Transformer}
use Rattle.gic_case.specs.declared.winding.WindingEnd.TheVariants as ends
use Rattle.gic_case.specs.declared.winding.Winding.{Winding}
use Rattle.gic_case.specs.Lists.{has_effect}
use Rattle.gic_winding.specs.Weights.{weight_of}

-- (V_H - V_X) I_S + V_X I_C = V_H I_H + V_X I_L for a series winding and the common one behind it, where I_H = I_S enters at the high terminal and I_L = I_C - I_S at the low one. Of a third winding this says nothing
abbrev pub WindingsWeighAsTerminals : Type 0
WindingsWeighAsTerminals = (t : Transformer) (s c : Winding) (series common high low : ℤ) → has_effect t.kind ≡ true →
    s.to ≡ ends.Bus c.from → c.to ≡ ends.Neutral → c.from.volts ≤ s.from.volts → high ≡ series → low ≡ common -ℤ series →
    (pos (weight_of t s) *ℤ series) +ℤ (pos (weight_of t c) *ℤ common) ≡ (pos s.from.volts *ℤ high) +ℤ (pos c.from.volts *ℤ low)
