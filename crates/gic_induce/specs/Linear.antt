-- That voltages are linear in the fields.
use Rattle.std.specs.Prelude.{ℕ, ◌≡◌, List, ℤ, ◌+ℤ◌, ◌*ℤ◌}
use Rattle.gic_case.specs.Lists.{Lists}
use Rattle.gic_model.specs.Voltages.{number_at}
use Rattle.gic_model.specs.declared.parts.Element.{Element}
use Rattle.gic_model.specs.declared.parts.Item.{Item}
use Rattle.gic_induce.specs.Fields.{zone_field}
use Rattle.gic_induce.specs.LineVolts.{volts_of_item, volts_of}

-- in each zone both parts of the field h, a times, are those of f, c times, and those of g, d times, together
pub record AreCombined (a c d : ℤ) (f g h : List (ℤ × ℤ)) : Type 0 where
  pub north : (zone : ℕ) → a *ℤ (zone_field h zone).0 ≡ c *ℤ (zone_field f zone).0 +ℤ d *ℤ (zone_field g zone).0
  pub east : (zone : ℕ) → a *ℤ (zone_field h zone).1 ≡ c *ℤ (zone_field f zone).1 +ℤ d *ℤ (zone_field g zone).1

-- then so is the voltage of each item
abbrev pub ItemVoltsAreLinear : Type 0
ItemVoltsAreLinear = (case : Lists) (a c d : ℤ) (f g h : List (ℤ × ℤ)) → AreCombined a c d f g h → (item : Item) →
    a *ℤ volts_of_item case h item ≡ c *ℤ volts_of_item case f item +ℤ d *ℤ volts_of_item case g item

-- and the voltage at each place of the elements
abbrev pub VoltsAreLinear : Type 0
VoltsAreLinear = (case : Lists) (elements : List Element) (a c d : ℤ) (f g h : List (ℤ × ℤ)) → AreCombined a c d f g h → (place : ℕ) →
    a *ℤ number_at (volts_of case h elements) place ≡ c *ℤ number_at (volts_of case f elements) place +ℤ d *ℤ number_at (volts_of case g elements) place
