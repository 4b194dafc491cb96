-- The windings of transformers. Voltages are rated ones, in V; resistances are in micro-ohm per phase.
use Rattle.std.specs.Prelude.{ℕ, ◌-◌, List, [], ◌∷◌, slice_get, Bool, Option, Some, None, is_some}
use Rattle.gic_case.specs.declared.kind.Third.{Third}
use Rattle.gic_case.specs.declared.kind.Kind.{Kind}
use Rattle.gic_case.specs.declared.kind.Kind.TheVariants as kinds
use Rattle.gic_case.specs.declared.item.Transformer.{Transformer}
use Rattle.gic_case.specs.declared.winding.Terminal.{Terminal}
use Rattle.gic_case.specs.declared.winding.WindingEnd.{WindingEnd}
use Rattle.gic_case.specs.declared.winding.WindingEnd.TheVariants as ends
use Rattle.gic_case.specs.declared.winding.WindingRole.{WindingRole}
use Rattle.gic_case.specs.declared.winding.WindingRole.TheVariants as roles
use Rattle.gic_case.specs.declared.winding.Winding.{Winding}

-- the terminal at a bus, with the voltage of its side
abbrev pub terminal : (bus volts : ℕ) → Terminal
terminal bus volts = record { bus = bus; volts = volts }

-- a winding from one terminal to another
abbrev pub between : WindingRole → (from to : Terminal) → (resistance : ℕ) → Winding
between r from to resistance = record { role = r; from = from; to = ends.Bus to; resistance = resistance }

-- a winding from a terminal to the neutral
abbrev pub to_neutral : WindingRole → (from : Terminal) → (resistance : ℕ) → Winding
to_neutral r from resistance = record { role = r; from = from; to = ends.Neutral; resistance = resistance }

-- a third winding, if there is one
abbrev pub third_windings : Option (Third ℕ) → List Winding
third_windings None = []
third_windings (Some t) = to_neutral roles.Third (terminal t.bus t.volts) t.resistance ∷ []

-- the windings of a unit of a kind whose high side has this voltage, in the order of the element list
abbrev pub windings_by : (high_volts : ℕ) → Kind ℕ → List Winding
windings_by high_volts (kinds.DeltaWye high high_resistance) =
    to_neutral roles.High (terminal high high_volts) high_resistance ∷ []
windings_by high_volts (kinds.WyeWye high low low_volts high_resistance low_resistance third) =
    to_neutral roles.High (terminal high high_volts) high_resistance ∷
    to_neutral roles.Low (terminal low low_volts) low_resistance ∷ third_windings third
windings_by high_volts (kinds.Auto high low low_volts series_resistance common_resistance third) =
    between roles.Series (terminal high high_volts) (terminal low low_volts) series_resistance ∷
    to_neutral roles.Common (terminal low low_volts) common_resistance ∷ third_windings third
windings_by high_volts (kinds.Reactor high high_resistance) =
    to_neutral roles.High (terminal high high_volts) high_resistance ∷ []
windings_by high_volts kinds.DeltaDelta = []

-- the windings of a transformer
abbrev pub windings_of : Transformer → List Winding
windings_of t = windings_by t.high_volts t.kind

-- whether it has any
abbrev pub has_windings : Transformer → Bool
has_windings t = is_some (slice_get (windings_of t) 0)

-- the rated voltage where a winding ends; the neutral has none
abbrev pub end_volts : WindingEnd → ℕ
end_volts (ends.Bus to) = to.volts
end_volts ends.Neutral = 0

-- the rated voltage across a winding. In no accepted case does a winding lead to a voltage above that from which it runs
abbrev pub volts_across : Winding → ℕ
volts_across w = w.from.volts - end_volts w.to
