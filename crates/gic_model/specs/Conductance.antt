-- The conductance of an element in units of 2^-20 siemens.
use Rattle.std.specs.Prelude.{ℕ, ◌*◌, ◌/◌, ◌^◌}
use Rattle.std.specs.Int.{div_ceil}
use Rattle.gic_model.specs.declared.parts.Element.{Element}

-- rounded down
abbrev pub conductance_down : Element → ℕ
conductance_down e = e.times * 1000000 * 2 ^ 20 / e.micro_ohm

-- rounded up
abbrev pub conductance_up : Element → ℕ
conductance_up e = div_ceil (e.times * 1000000 * 2 ^ 20) e.micro_ohm
