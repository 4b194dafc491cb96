-- Each element of a case is within the limits.
use Rattle.std.proofs.Common.{◌≡◌, ◌≢◌, ℕ, ◌+◌, ◌<◌, ◌≤◌, ◌⊎◌, true, false, Option, Some, None, List, [], ◌∷◌, length, is_some, slice_get, refl, sym, arith, inl, inr, flat_map}
use Rattle.std.proofs.lemmas.Bool.{cases_Bool}
use Rattle.std.proofs.lemmas.Bool.Decides.{nat_tests}
use Rattle.std.specs.Prelude.{◌==◌, IfSome}
use Rattle.std.specs.List.{AllByRecursion, enumerate_from}
use Rattle.gic_base.proofs.Each.{all_joined}
use Rattle.gic_case.specs.declared.item.Line.{Line}
use Rattle.gic_case.specs.declared.winding.Terminal.{Terminal}
use Rattle.gic_case.specs.declared.winding.WindingEnd.{WindingEnd}
use Rattle.gic_case.specs.declared.winding.WindingEnd.TheVariants as ends
use Rattle.gic_case.specs.declared.winding.Winding.{Winding}
use Rattle.gic_case.specs.declared.item.Neutral.{Neutral}
use Rattle.gic_case.specs.declared.item.Neutral.TheVariants as devices
use Rattle.gic_case.specs.Lists.{Lists, end_node}
use Rattle.gic_case.specs.Sound.{IsSoundLine, IsSoundEnd, IsSoundWinding, IsSoundDevice, IsResistance}
use Rattle.gic_model.specs.declared.parts.Role.{Role}
use Rattle.gic_model.specs.Limits.{IsElementWithin}
use Rattle.gic_winding.specs.ElementList.{earthing_of, line_of, winding, role_of, winding_elements, resistor_of}

-- what holds of each part holds of the whole
pub all_of_parts : {X A : Type 0} (Q : X → Type 0) (P : A → Type 0) (part : X → List A) → ((x : X) → Q x → AllByRecursion P (part x)) → (xs : List X) → AllByRecursion Q xs → AllByRecursion P (flat_map part xs)
all_of_parts Q P part each [] h = tt
all_of_parts Q P part each (x ∷ xs) h = all_joined P (part x) (flat_map part xs) (each x h.0) (all_of_parts Q P part each xs h.1)

-- a place below a bound, and a fact of the item there
pub record IsPlaced {X : Type 0} (bound : ℕ) (P : X → Type 0) (p : ℕ × X) : Type 0 where
  pub below : p.0 < bound
  pub fact : P p.1

pub all_placed : {X : Type 0} (bound : ℕ) (P : X → Type 0) (i : ℕ) (xs : List X) → i + length xs ≤ bound → AllByRecursion P xs → AllByRecursion (IsPlaced bound P) (enumerate_from i xs)
all_placed bound P i [] space h = tt
all_placed bound P i (x ∷ xs) space h = (record { below = omega arith; fact = h.0 }, all_placed bound P (i + 1) xs (omega arith) h.1)

other_number : (a b : ℕ) → a ≢ b → (a == b) ≡ false
other_number a b apart = grind (arith, nat_tests, apart)

pub earthing_within : (nodes place : ℕ) (ohm : Option ℕ) → place < nodes → IfSome ohm IsResistance → AllByRecursion (IsElementWithin nodes) (earthing_of place ohm)
earthing_within nodes place None inside h = tt
earthing_within nodes place (Some ohm) inside h = (
  record {
    from_node = inside;
    to_end = tt;
    ends_differ = refl;
    one_or_three = inl refl;
    least_ohm = h.0;
    most_ohm = h.1;
  },
  tt,
)

pub line_within : (c : Lists) (nodes place : ℕ) (l : Line) → length c.substations + length c.buses ≤ nodes → IsSoundLine c l → AllByRecursion (IsElementWithin nodes) (line_of (length c.substations) place l)
line_within c nodes place l buses h =
    elim (cases_Bool l.blocked) [
      | inl blocked ↦ rw blocked tt
      | inr runs ↦
          rw runs (
            record {
              from_node = omega (arith, h.from_within);
              to_end = omega (arith, h.to_within);
              ends_differ = other_number _ _ (λ same. h.ends_differ (omega (arith, same)));
              one_or_three = inr refl;
              least_ohm = h.resistance_least;
              most_ohm = h.resistance_most;
            },
            tt,
          )
    ]

-- a winding between two different nodes
winding_within : (nodes place : ℕ) (r : Role) (from to ohm : ℕ) → from < nodes → to < nodes → from ≢ to → IsResistance ohm → IsElementWithin nodes (winding place r from to ohm)
winding_within nodes place r from to ohm from_inside to_inside apart h = record {
  from_node = from_inside;
  to_end = to_inside;
  ends_differ = other_number to from (λ same. apart (sym same));
  one_or_three = inr refl;
  least_ohm = h.0;
  most_ohm = h.1;
}

-- a bus is not the neutral
not_neutral : (c : Lists) (bus neutral : ℕ) → bus < length c.buses → (neutral < length c.substations) ⊎ (length c.substations + length c.buses ≤ neutral) → length c.substations + bus ≢ neutral
not_neutral c bus neutral inside (inl grid) same = omega arith
not_neutral c bus neutral inside (inr own) same = omega arith

-- a winding from a bus to where it runs
end_within : (c : Lists) (nodes place neutral : ℕ) (r : Role) (from : Terminal) (to : WindingEnd) (ohm : ℕ) → length c.substations + length c.buses ≤ nodes
    → from.bus < length c.buses → IsSoundEnd c from to → IsResistance ohm → neutral < nodes → (neutral < length c.substations) ⊎ (length c.substations + length c.buses ≤ neutral)
    → IsElementWithin nodes (winding place r (length c.substations + from.bus) (end_node (length c.substations) neutral to) ohm)
end_within c nodes place neutral r from (ends.Bus to) ohm buses within sound h inside no_bus =
    winding_within nodes place r _ _ ohm (omega (arith, within)) (omega (arith, sound.0)) (λ same. sound.1 (omega (arith, same))) h
end_within c nodes place neutral r from ends.Neutral ohm buses within sound h inside no_bus =
    winding_within nodes place r _ _ ohm (omega (arith, within)) inside (not_neutral c from.bus neutral within no_bus) h

each_within : (c : Lists) (nodes place neutral volts : ℕ) (ws : List Winding) → length c.substations + length c.buses ≤ nodes → AllByRecursion (IsSoundWinding c volts) ws
    → neutral < nodes → (neutral < length c.substations) ⊎ (length c.substations + length c.buses ≤ neutral) → AllByRecursion (IsElementWithin nodes) (winding_elements (length c.substations) place neutral ws)
each_within c nodes place neutral volts [] buses h inside no_bus = tt
each_within c nodes place neutral volts (w ∷ ws) buses h inside no_bus =
    (end_within c nodes place neutral (role_of w.role) w.from w.to w.resistance buses h.0.bus_within h.0.end_sound h.0.ohm inside no_bus, each_within c nodes place neutral volts ws buses h.1 inside no_bus)

pub windings_within : (c : Lists) (nodes place neutral volts : ℕ) (ws : List Winding) → length c.substations + length c.buses ≤ nodes → AllByRecursion (IsSoundWinding c volts) ws
    → (is_some (slice_get ws 0) ≡ true → neutral < nodes) → (is_some (slice_get ws 0) ≡ true → (neutral < length c.substations) ⊎ (length c.substations + length c.buses ≤ neutral))
    → AllByRecursion (IsElementWithin nodes) (winding_elements (length c.substations) place neutral ws)
windings_within c nodes place neutral volts [] buses h inside no_bus = tt
windings_within c nodes place neutral volts (w ∷ ws) buses h inside no_bus = each_within c nodes place neutral volts (w ∷ ws) buses h (inside refl) (no_bus refl)

pub resistor_within : (nodes place neutral grid : ℕ) (device : Option Neutral) → (is_some device ≡ true → grid < neutral) → (is_some device ≡ true → neutral < nodes) → IfSome device IsSoundDevice
    → AllByRecursion (IsElementWithin nodes) (resistor_of place neutral grid device)
resistor_within nodes place neutral grid None apart inside h = tt
resistor_within nodes place neutral grid (Some (devices.Resistor ohm)) apart inside h =
    let below : grid < neutral = apart refl in
    let space : neutral < nodes = inside refl in (
      record {
        from_node = space;
        to_end = omega arith;
        ends_differ = other_number _ _ (λ same. omega arith);
        one_or_three = inl refl;
        least_ohm = h.0;
        most_ohm = h.1;
      },
      tt,
    )
resistor_within nodes place neutral grid (Some devices.Blocked) apart inside h = tt
