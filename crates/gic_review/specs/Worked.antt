-- Cases worked by hand.
use Rattle.std.specs.Prelude.{ℕ, ℤ, Bool, List, [], ◌∷◌, Some, None, true, false, codes, pos, neg_ℤ}
use Rattle.gic_case.specs.declared.scaling.Scaling.TheVariants.{Earth, Factor}
use Rattle.gic_case.specs.ZoneView.{ZoneView}
use Rattle.gic_case.specs.declared.part.LinePart.{LinePart}
use Rattle.gic_case.specs.declared.course.Course.{Course}
use Rattle.gic_case.specs.declared.course.Course.TheVariants.{One, Several}
use Rattle.gic_case.specs.declared.item.Bus.{Bus}
use Rattle.gic_case.specs.declared.item.Line.{Line}
use Rattle.gic_case.specs.declared.kind.Third.{Third}
use Rattle.gic_case.specs.declared.kind.Kind.{Kind}
use Rattle.gic_case.specs.declared.kind.Kind.TheVariants as kinds
use Rattle.gic_case.specs.declared.item.Transformer.{Transformer}
use Rattle.gic_case.specs.Lists.{Lists, substation_with}
use Rattle.gic_case.specs.declared.case_list.CaseList.TheVariants as lists
use Rattle.gic_review.specs.declared.findings.finding.Side.TheVariants as sides
use Rattle.gic_review.specs.declared.findings.finding.Finding.{Finding}
use Rattle.gic_review.specs.declared.findings.finding.Finding.TheVariants as findings
use Rattle.gic_review.specs.declared.findings.measured.Quantity.TheVariants as values

abbrev pub zone : List ℕ → (latitude beta : ℕ) → ZoneView
zone name latitude beta = record { name = name; scaling = Earth latitude beta }

abbrev pub bus : List ℕ → (substation : ℕ) → Bus
bus name substation = record { name = name; substation = substation }

-- a part in the first zone
abbrev pub part : (north east : ℤ) → LinePart
part north east = record { zone = 0; north = north; east = east }

abbrev pub line : List ℕ → (from to : ℕ) → Course → (blocked : Bool) → Line
line name from to course blocked = record { name = name; from = from; to = to; course = course; resistance = 3000000; blocked = blocked }

-- a unit without a neutral device
abbrev pub unit_of : List ℕ → (high_volts : ℕ) → Kind ℕ → Transformer
unit_of name high_volts kind = record { name = name; high_volts = high_volts; kind = kind; neutral = None }

-- a delta-wye unit
abbrev pub unit : List ℕ → (high_volts high high_resistance : ℕ) → Transformer
unit name high_volts high high_resistance = unit_of name high_volts (kinds.DeltaWye high high_resistance)

-- two substations, of which the second has no ground, and a line of 90 metres
abbrev pub ungrounded_case : Lists
ungrounded_case = record {
  zones = zone (codes "Z") 60 100 ∷ [];
  substations = substation_with (codes "A") (Some 1000000) None ∷ substation_with (codes "B") None None ∷ [];
  buses = bus (codes "a") 0 ∷ bus (codes "b") 1 ∷ [];
  lines = line (codes "L") 0 1 (One (part (pos 90) (pos 0))) false ∷ [];
  transformers = unit (codes "TA") 345000 0 300000 ∷ unit (codes "TB") 34500 1 3000 ∷ [];
}

-- what is found in it
abbrev pub ungrounded_findings : List Finding
ungrounded_findings =
    findings.Ungrounded (codes "B") ∷
    findings.Value lists.Zone (codes "Z") values.Latitude 60 ∷
    findings.Value lists.Line (codes "L") values.Span 90 ∷
    findings.Value lists.Transformer (codes "TB") values.HighResistance 3000 ∷ []

-- three substations in a loop, whose second line has its ends turned; the line that closes the loop is blocked
abbrev pub turned_case : Lists
turned_case = record {
  zones = zone (codes "Z") 6000 100 ∷ [];
  substations = substation_with (codes "A") (Some 400000) None ∷ substation_with (codes "B") (Some 400000) None ∷ substation_with (codes "C") (Some 400000) None ∷ [];
  buses = bus (codes "a") 0 ∷ bus (codes "b") 1 ∷ bus (codes "c") 2 ∷ [];
  lines =
      line (codes "AB") 0 1 (One (part (pos 100000) (pos 0))) false ∷
      line (codes "CB") 2 1 (One (part (pos 0) (pos 200000))) false ∷
      line (codes "CA") 2 0 (One (part (neg_ℤ (pos 100000)) (neg_ℤ (pos 200000)))) true ∷ [];
  transformers = [];
}

-- A lies 100 km to the south and 200 km to the east of C; the third line leads from C 100 km to the south and 200 km to the west, and misses A by 400 km to the east
abbrev pub turned_findings : List Finding
turned_findings = findings.Closure (codes "CA") (pos 0) (neg_ℤ (pos 400000)) ∷ []

-- two substations that nothing joins, and a bus at which nothing ends
abbrev pub parted_case : Lists
parted_case = record {
  zones = zone (codes "Z") 6000 100 ∷ [];
  substations = substation_with (codes "East") (Some 200000) None ∷ substation_with (codes "West") (Some 300000) None ∷ [];
  buses = bus (codes "e") 0 ∷ bus (codes "w") 1 ∷ bus (codes "x") 1 ∷ [];
  lines = [];
  transformers = unit (codes "Te") 345000 0 200000 ∷ unit (codes "Tw") 345000 1 250000 ∷ [];
}

abbrev pub parted_findings : List Finding
parted_findings = findings.Part 2 (codes "East") ∷ findings.Part 2 (codes "West") ∷ []

-- five units at one bus: the measure, and voltages at and past the ends of what fits it
abbrev pub levels_case : Lists
levels_case = record {
  zones = zone (codes "Z") 6000 100 ∷ [];
  substations = substation_with (codes "A") (Some 200000) None ∷ [];
  buses = bus (codes "a") 0 ∷ [];
  lines = [];
  transformers =
      unit (codes "T1") 345000 0 200000 ∷ unit (codes "T2") 310500 0 200000 ∷ unit (codes "T3") 310499 0 200000 ∷
      unit (codes "T4") 383333 0 200000 ∷ unit (codes "T5") 383334 0 200000 ∷ [];
}

abbrev pub levels_findings : List Finding
levels_findings = findings.Volts (codes "T3") sides.High 310499 345000 ∷ findings.Volts (codes "T5") sides.High 383334 345000 ∷ []

-- a third winding
abbrev pub third : (bus volts resistance : ℕ) → Third ℕ
third bus volts resistance = record { bus = bus; volts = volts; resistance = resistance }

-- a zone by its scale, a line in two parts and one beside it, and two units with third windings at the bus of a reactor
abbrev pub third_case : Lists
third_case = record {
  zones = record { name = codes "Z"; scaling = Factor 1000 } ∷ [];
  substations = substation_with (codes "A") (Some 200000) None ∷ substation_with (codes "B") None None ∷ [];
  buses = bus (codes "a") 0 ∷ bus (codes "b") 0 ∷ bus (codes "c") 0 ∷ bus (codes "d") 1 ∷ [];
  lines =
      line (codes "L") 0 3 (Several (part (pos 60000) (pos 30) ∷ part (neg_ℤ (pos 59950)) (neg_ℤ (pos 10)) ∷ [])) false ∷
      line (codes "M") 0 3 (One (part (pos 5000) (pos 0))) false ∷ [];
  transformers =
      unit_of (codes "T") 345000 (kinds.Auto 0 1 138000 300000 200000 (Some (third 2 20000 9999))) ∷
      unit_of (codes "R") 5000 (kinds.Reactor 2 400000) ∷
      unit_of (codes "U") 345000 (kinds.WyeWye 0 1 138000 300000 200000 (Some (third 2 22223 300000))) ∷ [];
}

-- the parts of L lead 50 metres to the north and 20 to the east together; M leads there too, 5 km to the north; nine times the third voltage of U is above ten times that of T
abbrev pub third_findings : List Finding
third_findings =
    findings.Closure (codes "M") (pos 4950) (neg_ℤ (pos 20)) ∷
    findings.Value lists.Line (codes "L") values.Span 70 ∷
    findings.Value lists.Transformer (codes "T") values.ThirdResistance 9999 ∷
    findings.Volts (codes "R") sides.High 5000 20000 ∷
    findings.Volts (codes "U") sides.Third 22223 20000 ∷ []

-- zones at the ends of the latitudes where the alpha of the table is low and just beyond them, one with an unusual beta, and one by its scale
abbrev pub alpha_case : Lists
alpha_case = record {
  zones =
      zone (codes "Z1") 4959 100 ∷ zone (codes "Z2") 4960 100 ∷ zone (codes "Z3") 5000 100 ∷ zone (codes "Z4") 5001 100 ∷
      zone (codes "Z5") 5562 100 ∷ zone (codes "Z6") 5563 100 ∷ zone (codes "Z7") 5600 9 ∷ zone (codes "Z8") 5601 100 ∷
      zone (codes "Z9") 5696 100 ∷ zone (codes "Za") 5697 100 ∷ zone (codes "Zb") 5700 100 ∷ zone (codes "Zc") 5701 100 ∷
      record { name = codes "Zd"; scaling = Factor 1000 } ∷ [];
  substations = [];
  buses = [];
  lines = [];
  transformers = [];
}

abbrev pub alpha_findings : List Finding
alpha_findings =
    findings.Value lists.Zone (codes "Z7") values.Beta 9 ∷
    findings.Alpha (codes "Z2") 4960 ∷
    findings.Alpha (codes "Z3") 5000 ∷
    findings.Alpha (codes "Z6") 5563 ∷
    findings.Alpha (codes "Z7") 5600 ∷
    findings.Alpha (codes "Za") 5697 ∷
    findings.Alpha (codes "Zb") 5700 ∷ []
