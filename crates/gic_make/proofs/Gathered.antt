-- The lists of a made case, made one after the other.
use Rattle.std.proofs.Common.{◌≡◌, ℕ, ◌-◌, ◌≤◌, List, [], ◌∷◌, map, sym, ap, subst}
use Rattle.std.specs.List.{range_with_len}
use Rattle.gic_case.specs.ZoneView.{ZoneView}
use Rattle.gic_case.specs.declared.item.Substation.{Substation}
use Rattle.gic_case.specs.declared.item.Bus.{Bus}
use Rattle.gic_case.specs.declared.item.Line.{Line}
use Rattle.gic_case.specs.declared.item.Transformer.{Transformer}
use Rattle.gic_case.specs.Sound.{IsSound, lists_with}
use Rattle.gic_make.specs.Generator.{states_after}
use Rattle.gic_make.specs.MadeCase.{first_draw, made_zone, made_substation, made_bus, made_transformer, made_line, drawn_case, made_case}
use Rattle.gic_make.proofs.SoundCase.{made_sound}

module _ (seed size : ℕ) (states : List ℕ) (zones : List ZoneView) (substations : List Substation) (buses : List Bus) (lines : List Line) (transformers : List Transformer)
    (are : states ≡ states_after seed (first_draw size)) (zone : zones ≡ made_zone ∷ []) (first : substations ≡ map (made_substation states) (range_with_len 0 size))
    (second : buses ≡ map made_bus (range_with_len 0 size)) (third : lines ≡ map (made_line states) (range_with_len 1 (size - 1)))
    (fourth : transformers ≡ map (made_transformer states) (range_with_len 0 size)) where
  -- are those of the made case
  pub gathered : lists_with zones substations buses lines transformers ≡ made_case seed size
  unfolding made_case
  gathered = rw (zone, first, second, third, fourth) (ap (λ l. drawn_case l size) are)

  -- and sound
  pub gathered_sound : 2 ≤ size → size ≤ 1000 → IsSound (lists_with zones substations buses lines transformers)
  gathered_sound least most = subst IsSound (sym gathered) (made_sound seed size least most)
