-- The neutral nodes of a case are named as their transformers.
use Rattle.std.proofs.Common.{◌≡◌, ℕ, ◌+◌, ◌<◌, ◌≤◌, true, false, List, [], ◌∷◌, length, map, drop, get_or, arith}
use Rattle.std.specs.Prelude.{if◌then◌else◌, is_some}
use Rattle.std.specs.List.{AllByRecursion}
use Rattle.std.proofs.lemmas.List.{length-map}
use Rattle.std.proofs.lemmas.List.Elements.{recursion_from_All}
use Rattle.gic_case.specs.declared.item.Transformer.{Transformer}
use Rattle.gic_case.specs.Lists.{Lists, node_names, with_device, grid_of, neutrals_from, neutrals_of}
use Rattle.gic_case.specs.Windings.{has_windings}
use Rattle.gic_case.specs.Sound.{IsSound, IsSoundTransformer}
use Rattle.gic_case.proofs.NeutralNodes.{transformers-neutrals_from}
use Rattle.gic_winding.proofs.Grids.{grid_within}
use Rattle.gic_report.proofs.ListParts.{drop_first, drop_two}

-- how many nodes come before the neutral ones
abbrev pub first_neutral : Lists → ℕ
first_neutral c = length c.substations + length c.buses

-- a transformer with windings has a neutral that is a substation, or that is named as it
abbrev pub IsNamedNeutral : (first : ℕ) → List (List ℕ) → ℕ × Transformer → Type 0
IsNamedNeutral first names p = has_windings p.1 ≡ true → first ≤ p.0 → get_or names p.0 [] ≡ p.1.name

-- a transformer with windings is at a substation
abbrev pub IsAtGrid : Lists → Transformer → Type 0
IsAtGrid c t = has_windings t ≡ true → grid_of c.buses t < length c.substations

pub at_grid : (c : Lists) → IsSound c → (t : Transformer) → IsSoundTransformer c t → IsAtGrid c t
at_grid c sound t h w = grid_within c sound t h w

all_at_grid : (c : Lists) → IsSound c → (ts : List Transformer) → AllByRecursion (IsSoundTransformer c) ts → AllByRecursion (IsAtGrid c) ts
all_at_grid c sound [] h = tt
all_at_grid c sound (t ∷ ts) h = (at_grid c sound t h.0, all_at_grid c sound ts h.1)

-- the names from here on are those of these transformers' own neutrals
named_from : (c : Lists) (names : List (List ℕ)) (node : ℕ) (ts : List Transformer) → AllByRecursion (IsAtGrid c) ts → drop node names ≡ map (λ t. t.name) (with_device ts)
    → AllByRecursion (IsNamedNeutral (first_neutral c) names) (neutrals_from c.buses node ts)
named_from c names node [] grids e = tt
named_from c names node (t ∷ ts) grids e =
    (elim (is_some t.neutral) as (λ b. drop node names ≡ map (λ t. t.name) (if b then t ∷ with_device ts else with_device ts)
    → AllByRecursion (IsNamedNeutral (first_neutral c) names) (if b then (node, t) ∷ neutrals_from c.buses (node + 1) ts else (grid_of c.buses t, t) ∷ neutrals_from c.buses node ts)) [
      | true ↦ λ f. let next = drop_first names node t.name (map (λ t. t.name) (with_device ts)) f in
          ((λ w h. next.1 []), named_from c names (node + 1) ts grids.1 next.2)
      | false ↦ λ f. ((λ w h. absurd (omega (arith, grids.0 w, h))), named_from c names node ts grids.1 f)
    ]) e

-- the nodes past the buses
names_of_neutrals : (c : Lists) → drop (first_neutral c) (node_names c) ≡ map (λ t. t.name) (with_device c.transformers)
names_of_neutrals c =
    drop_two (map (λ s. s.name) c.substations) (map (λ b. b.name) c.buses) (map (λ t. t.name) (with_device c.transformers)) (length c.substations) (length c.buses)
    (length-map c.substations (λ s. s.name)) (length-map c.buses (λ b. b.name))

-- the neutral of each transformer
pub neutrals_named : (c : Lists) → IsSound c → AllByRecursion (IsNamedNeutral (first_neutral c) (node_names c)) (neutrals_of c)
neutrals_named c sound =
    named_from c (node_names c) (first_neutral c) c.transformers
    (all_at_grid c sound c.transformers (recursion_from_All (IsSoundTransformer c) c.transformers sound.transformers_sound))
    (names_of_neutrals c)

-- the transformers of a case, each with its neutral, in their order
pub transformers_of_neutrals : (c : Lists) → map (λ p. p.1) (neutrals_of c) ≡ c.transformers
transformers_of_neutrals c = transformers-neutrals_from c.buses (first_neutral c) c.transformers
