-- What the interval of a transformer's current is made of: its row, which is sound, and parts of a reference.
use Rattle.std.proofs.Common.{◌≡◌, ◌^◌, ◌<◌, ℕ, List, length, get_or, ap, sym, subst, ◌∙◌}
use Rattle.std.proofs.lemmas.List.{get_or_default}
use Rattle.std.proofs.lemmas.List.Elements.{All-get_or}
use Rattle.gic_case.specs.declared.item.Transformer.{Transformer}
use Rattle.gic_case.specs.Lists.{Lists}
use Rattle.gic_case.specs.Sound.{IsSound, IsSoundTransformer, IsRated}
use Rattle.gic_fixed.specs.Ends.{Ends}
use Rattle.gic_uniform.specs.declared.solve_workspace.SolveWorkspace.{SolveWorkspace}
use Rattle.gic_winding.specs.Weights.{transformer_at, no_transformer}
use Rattle.gic_grounds.specs.declared.nets.GroundNets.{GroundNets}
use Rattle.gic_grounds.specs.declared.reference.Reference.{Reference}
use Rattle.gic_grounds.specs.Lifted.{CanSolve, HasReferenceSpace, CanEnclose}
use Rattle.gic_grounds.specs.NodeEnds.{AreAllWithin}
use Rattle.gic_grounds.specs.Varying.{most_adjoint, AreVariedOf, AreVariedWithin}

-- the row that is read is the transformer's
pub row_read : (case : Lists) (t : ℕ) (rows : List Transformer) (row : Transformer) → t < length case.transformers →
    row ≡ get_or rows t row → rows ≡ case.transformers → transformer_at case t ≡ row
row_read case t rows row inside at whole =
    get_or_default case.transformers t no_transformer row inside ∙ sym (at ∙ ap (λ (ts : List Transformer). get_or ts t row) whole)

-- and its high voltage is that of a sound one
pub row_rated : (case : Lists) (t : ℕ) (row : Transformer) → t < length case.transformers → IsSound case → transformer_at case t ≡ row →
    IsRated row.high_volts
row_rated case t row inside sound is =
    subst (λ (r : Transformer). IsRated r.high_volts) is
    (All-get_or (IsSoundTransformer case) case.transformers t no_transformer inside sound.transformers_sound).rated

-- there is all that an interval is made of
pub can_enclose : (nodes count transformers t : ℕ) (nets : GroundNets) (solving : SolveWorkspace) (adjoint : List Ends) (reference : Reference) →
    CanSolve nodes count nets.least solving → CanSolve nodes count nets.most solving → length adjoint ≡ nodes → AreAllWithin most_adjoint adjoint →
    HasReferenceSpace nodes transformers reference → AreVariedWithin reference.potentials → AreAllWithin (2 ^ 80) reference.own →
    t < transformers → CanEnclose nets adjoint reference t
can_enclose nodes count transformers t nets solving adjoint reference least most adjoined small space varied own inside = record {
  strays = record {
    same_count = most.element_count ∙ sym least.element_count;
    adjoint_count = adjoined ∙ sym least.node_count;
    adjoint_within = small;
    varied_count = subst (λ n. AreVariedOf n reference.potentials) (sym least.node_count) space.varied_count;
    varied_within = varied;
  };
  has_own = subst (λ n. t < n) (sym space.own_count) inside;
  own_within = own;
}
