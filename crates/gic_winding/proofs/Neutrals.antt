-- The transformers of a case with the nodes of their neutrals.
use Rattle.std.proofs.Common.{◌≡◌, ℕ, ◌+◌, ◌<◌, length, get_or, ap, sym, ◌∙◌, arith}
use Rattle.std.proofs.lemmas.List.{get_or-map}
use Rattle.gic_case.proofs.NeutralNodes.{transformers-neutrals_from, length-neutrals_of}
use Rattle.gic_case.specs.declared.item.Transformer.{Transformer}
use Rattle.gic_case.specs.Lists.{Lists, neutrals_of}

-- the transformer at a place
pub transformer_of : (c : Lists) (i n : ℕ) (t : Transformer) → i < length c.transformers → t ≡ get_or c.transformers i t → (get_or (neutrals_of c) i (n, t)).1 ≡ t
transformer_of c i n t within at =
    let inside : i < length (neutrals_of c) = omega (arith, length-neutrals_of c) in
    sym (get_or-map (λ (p : ℕ × Transformer). p.1) (neutrals_of c) i (n, t) t inside)
    ∙ ap (λ l. get_or l i t) (transformers-neutrals_from c.buses (length c.substations + length c.buses) c.transformers) ∙ sym at
