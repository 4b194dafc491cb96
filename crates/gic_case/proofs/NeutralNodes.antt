-- The transformers of a case with the nodes of their neutrals.
use Rattle.std.proofs.Common.{◌≡◌, ℕ, ◌+◌, List, [], ◌∷◌, All, length, map, is_some, refl, ap, sym, ◌∙◌, inl, inr}
use Rattle.std.proofs.Math.ListN.{length-map}
use Rattle.std.proofs.lemmas.Bool.{cases_Bool}
use Rattle.std.proofs.lemmas.List.Elements.{recursion_from_All, All-from_recursion}
use Rattle.std.specs.List.{AllByRecursion}
use Rattle.gic_case.specs.declared.item.Bus.{Bus}
use Rattle.gic_case.specs.declared.item.Transformer.{Transformer}
use Rattle.gic_case.specs.Lists.{Lists, neutrals_from, neutrals_of}
use Rattle.gic_case.specs.Sound.{IsSound, IsSoundTransformer}

-- no transformer is left out
pub transformers-neutrals_from : (buses : List Bus) (own : ℕ) (ts : List Transformer) → map (λ p. p.1) (neutrals_from buses own ts) ≡ ts
transformers-neutrals_from buses own [] = refl
transformers-neutrals_from buses own (t ∷ ts) =
    elim (cases_Bool (is_some t.neutral)) [
      | inl has ↦ rw has (ap (λ l. t ∷ l) (transformers-neutrals_from buses (own + 1) ts))
      | inr none ↦ rw none (ap (λ l. t ∷ l) (transformers-neutrals_from buses own ts))
    ]

pub length-neutrals_of : (c : Lists) → length (neutrals_of c) ≡ length c.transformers
length-neutrals_of c =
    sym (length-map (neutrals_of c) (λ p. p.1)) ∙ ap length (transformers-neutrals_from c.buses (length c.substations + length c.buses) c.transformers)

-- what holds of each transformer holds of each beside its neutral
pub beside_neutrals : (P : Transformer → Type 0) (buses : List Bus) (own : ℕ) (ts : List Transformer) → AllByRecursion P ts → AllByRecursion (λ p. P p.1) (neutrals_from buses own ts)
beside_neutrals P buses own [] h = tt
beside_neutrals P buses own (t ∷ ts) h =
    elim (cases_Bool (is_some t.neutral)) [
      | inl has ↦ rw has (h.0, beside_neutrals P buses (own + 1) ts h.1)
      | inr none ↦ rw none (h.0, beside_neutrals P buses own ts h.1)
    ]

-- so each transformer of a sound case is sound there
pub each_sound : (c : Lists) (ps : List (ℕ × Transformer)) → IsSound c → ps ≡ neutrals_of c → All (λ p. IsSoundTransformer c p.1) ps
each_sound c ps sound are =
    rw are (All-from_recursion (λ p. IsSoundTransformer c p.1) (neutrals_of c)
    (beside_neutrals (IsSoundTransformer c) c.buses (length c.substations + length c.buses) c.transformers (recursion_from_All (IsSoundTransformer c) c.transformers sound.transformers_sound)))
