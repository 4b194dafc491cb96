-- Where the neutrals of transformers are: a ground grid is a substation, and each neutral of its own is a node after the buses.
use Rattle.std.proofs.Common.{◌≡◌, ℕ, ◌+◌, ◌<◌, ◌≤◌, ◌⊎◌, true, false, List, [], ◌∷◌, length, is_some, slice_get, refl, arith, inl, inr}
use Rattle.std.proofs.lemmas.Bool.{cases_Bool}
use Rattle.std.proofs.lemmas.List.{get_or-map}
use Rattle.std.proofs.lemmas.List.Elements.{recursion_from_All}
use Rattle.std.specs.List.{AllByRecursion}
use Rattle.gic_case.specs.declared.item.Bus.{Bus}
use Rattle.gic_case.specs.declared.item.Transformer.{Transformer}
use Rattle.gic_case.specs.declared.winding.Winding.{Winding}
use Rattle.gic_case.specs.Lists.{Lists, neutrals_from, grid_by, grid_of, substation_at, with_device}
use Rattle.gic_case.specs.Windings.{windings_of, has_windings}
use Rattle.gic_case.specs.Sound.{IsSound, IsSoundWinding, IsSoundTransformer}

-- each bus is in a substation of the case
pub substation_within : (c : Lists) → IsSound c → (place : ℕ) → place < length c.buses → substation_at c.buses place < length c.substations
substation_within c sound place within =
    let none : Bus = record { name = []; substation = 0 } in
    let at = get_or-map (λ (b : Bus). b.substation) c.buses place none 0 within in
    let inside = sound.buses_within place none within in
    omega (arith, at, inside)

-- so the substation of the first winding is one of the case
first_within : (c : Lists) → IsSound c → (volts : ℕ) (ws : List Winding) → AllByRecursion (IsSoundWinding c volts) ws → is_some (slice_get ws 0) ≡ true → grid_by c.buses (slice_get ws 0) < length c.substations
first_within c sound volts [] h has = absurd (cc has)
first_within c sound volts (w ∷ ws) h has = substation_within c sound w.from.bus h.0.bus_within

-- and so is the ground grid of a transformer that has windings
pub grid_within : (c : Lists) → IsSound c → (t : Transformer) → IsSoundTransformer c t → has_windings t ≡ true → grid_of c.buses t < length c.substations
grid_within c sound t h has = first_within c sound t.high_volts (windings_of t) (recursion_from_All (IsSoundWinding c t.high_volts) (windings_of t) h.windings_sound) has

-- the neutral of a transformer that has windings is a substation, or comes after the buses; the latter where it has a neutral device
pub record IsNeutral (c : Lists) (nodes : ℕ) (p : ℕ × Transformer) : Type 0 where
  pub sound : IsSoundTransformer c p.1
  pub inside : has_windings p.1 ≡ true → p.0 < nodes
  pub no_bus : has_windings p.1 ≡ true → (p.0 < length c.substations) ⊎ (length c.substations + length c.buses ≤ p.0)
  pub own : is_some p.1.neutral ≡ true → length c.substations + length c.buses ≤ p.0

own_neutral : (c : Lists) (nodes own : ℕ) (t : Transformer) → length c.substations + length c.buses ≤ own → own < nodes → IsSoundTransformer c t → IsNeutral c nodes (own, t)
own_neutral c nodes own t past fits h = record {
  sound = h;
  inside = λ windings. fits;
  no_bus = λ windings. inr past;
  own = λ device. past;
}

shared_neutral : (c : Lists) → IsSound c → (nodes : ℕ) (t : Transformer) → length c.substations ≤ nodes → is_some t.neutral ≡ false → IsSoundTransformer c t
    → IsNeutral c nodes (grid_of c.buses t, t)
shared_neutral c sound nodes t grids none h = record {
  sound = h;
  inside = λ windings. omega (arith, grid_within c sound t h windings);
  no_bus = λ windings. inl (grid_within c sound t h windings);
  own = λ device. absurd (cc (none, device));
}

pub neutrals_within : (c : Lists) → IsSound c → (nodes own : ℕ) (ts : List Transformer) → length c.substations ≤ nodes → length c.substations + length c.buses ≤ own
    → own + length (with_device ts) ≤ nodes → AllByRecursion (IsSoundTransformer c) ts → AllByRecursion (IsNeutral c nodes) (neutrals_from c.buses own ts)
neutrals_within c sound nodes own [] grids past fits h = tt
neutrals_within c sound nodes own (t ∷ ts) grids past fits h =
    elim (cases_Bool (is_some t.neutral)) [
      | inl has ↦
          let counted : length (with_device (t ∷ ts)) ≡ length (with_device ts) + 1 = rw has (omega arith) in
          rw has (
            own_neutral c nodes own t past (omega arith) h.0,
            neutrals_within c sound nodes (own + 1) ts grids (omega arith) (omega arith) h.1,
          )
      | inr none ↦
          let counted : length (with_device (t ∷ ts)) ≡ length (with_device ts) = rw none refl in
          rw none
          (shared_neutral c sound nodes t grids none h.0, neutrals_within c sound nodes own ts grids past (omega arith) h.1)
    ]
