use Rattle.std.proofs.Common.{◌≡◌, ℕ, List, map, take, option_map}
use Rattle.std.specs.HashMap.{get}
use Rattle.std.specs.Option.{option_or}
use Rattle.gic_case.specs.Names.{same, place_in}
use Rattle.gic_case.specs.declared.item.Transformer.{Transformer}
use Rattle.gic_model.specs.declared.parts.Item.TheVariants as items
use Rattle.gic_switch.proofs.names.enter_transformers.Given as goal

-- the transformers so far are entered
abbrev pub invariant-loop-place : goal.invariant-loop-place
invariant-loop-place l = (q : List ℕ) → get same l.named q ≡ option_or (get same l.fn.named q) (option_map items.Transformer (place_in (map (λ (x : Transformer). x.name) (take l.place l.transformers)) q))
