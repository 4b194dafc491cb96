-- The voltages in a uniform field are those in its part to the north and those in its part to the east together.
use Rattle.std.proofs.Common.{◌≡◌, ◌⊎◌, inl, inr, ℕ, ◌<◌, ◌≤◌, length, replicate, ℤ, pos, ◌+ℤ◌, ◌*ℤ◌, arith, refl, ap, ◌∙◌}
use lib.IntN.{*ℤ_comm, *ℤ-zero}
use Rattle.std.proofs.Math.Path.{fun_ext}
use Rattle.std.proofs.lemmas.Bool.{cases_lt}
use Rattle.std.proofs.lemmas.List.{get_or-replicate, get_or_past, length-replicate}
use Rattle.gic_fixed.proofs.Integers.{linear}
use Rattle.gic_case.specs.Lists.{Lists}
use Rattle.gic_winding.specs.ElementList.{elements_of}
use Rattle.gic_induce.specs.Fields.{zone_field, no_field}
use Rattle.gic_induce.specs.Linear.{AreCombined, VoltsAreLinear}
use Rattle.gic_uniform.specs.Uniform.{uniform_field, uniform_volts}
use Rattle.gic_superpose.proofs.Weighted.{none_times}

-- in a zone of the case the field is this one, and elsewhere there is none
inside : (n zone : ℕ) (field : ℤ × ℤ) → zone < n → zone_field (replicate n field) zone ≡ field
inside n zone field within = get_or-replicate n zone field no_field within

outside : (n zone : ℕ) (field : ℤ × ℤ) → n ≤ zone → zone_field (replicate n field) zone ≡ no_field
outside n zone field past = get_or_past (replicate n field) zone no_field (omega (arith, length-replicate n field))

-- one part of a field, in each zone
part_combined : (part : ℤ × ℤ → ℤ) (a c d : ℤ) (f g h : ℤ × ℤ) → part no_field ≡ pos 0 → a *ℤ part h ≡ c *ℤ part f +ℤ d *ℤ part g
    → (n zone : ℕ) → ((zone < n) ⊎ (n ≤ zone))
    → a *ℤ part (zone_field (replicate n h) zone) ≡ c *ℤ part (zone_field (replicate n f) zone) +ℤ d *ℤ part (zone_field (replicate n g) zone)
part_combined part a c d f g h zeroed is n zone (inl within) =
    let one = ap (λ y. a *ℤ part y) (inside n zone h within) in
    let two = ap (λ y. c *ℤ part y) (inside n zone f within) in
    let three = ap (λ y. d *ℤ part y) (inside n zone g within) in
    omega (arith, linear, one, two, three, is)
part_combined part a c d f g h zeroed is n zone (inr past) =
    let none : (z : ℤ) → z *ℤ part no_field ≡ pos 0 = λ z. ap (λ y. z *ℤ y) zeroed ∙ *ℤ-zero z in
    let one = ap (λ y. a *ℤ part y) (outside n zone h past) ∙ none a in
    let two = ap (λ y. c *ℤ part y) (outside n zone f past) ∙ none c in
    let three = ap (λ y. d *ℤ part y) (outside n zone g past) ∙ none d in
    omega (arith, linear, one, two, three)

-- the field (north, east), as often as the other two are strong
fields_combined : (n : ℕ) (strength north east : ℤ)
    → AreCombined strength north east (replicate n (strength, pos 0)) (replicate n (pos 0, strength)) (replicate n (north, east))
fields_combined n strength north east =
    let turned = *ℤ_comm strength north in
    let east_turned = *ℤ_comm strength east in
    let none = *ℤ-zero east in
    let none_north = *ℤ-zero north in
    record {
      north = λ zone. part_combined (λ y. y.0) strength north east (strength, pos 0) (pos 0, strength) (north, east) refl (omega (arith, linear)) n zone (cases_lt zone n);
      east = λ zone. part_combined (λ y. y.1) strength north east (strength, pos 0) (pos 0, strength) (north, east) refl (omega (arith, linear)) n zone (cases_lt zone n);
    }

-- one voltage c times and another d times, at each place
abbrev pub volts_together : (c : ℤ) → (ℕ → ℤ) → (d : ℤ) → (ℕ → ℤ) → ℕ → ℤ
volts_together c one d other place = c *ℤ one place +ℤ d *ℤ other place

-- the voltages at each place
pub volts_combined : VoltsAreLinear → (case : Lists) (strength north east : ℤ)
    → volts_together strength (uniform_volts case north east) (pos 0) (uniform_volts case north east)
    ≡ volts_together north (uniform_volts case strength (pos 0)) east (uniform_volts case (pos 0) strength)
volts_combined linear_volts case strength north east = fun_ext (λ p.
    let none = none_times (uniform_volts case north east p) in
    let is = linear_volts case (elements_of case).list strength north east (uniform_field case strength (pos 0)) (uniform_field case (pos 0) strength) (uniform_field case north east)
    (fields_combined (length case.zones) strength north east) p in
    same _ _ _ none is)
  where
    same : (a b c : ℤ) → b ≡ pos 0 → a ≡ c → a +ℤ b ≡ c
    same a b c none is = omega (arith, linear)
