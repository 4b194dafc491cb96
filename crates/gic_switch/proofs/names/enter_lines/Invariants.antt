use Rattle.std.proofs.Common.{◌≡◌, ℕ, List, map, take, option_map}
use Rattle.std.specs.HashMap.{get}
use Rattle.std.specs.Option.{option_or}
use Rattle.gic_case.specs.Names.{same, place_in}
use Rattle.gic_case.specs.declared.item.Line.{Line}
use Rattle.gic_model.specs.declared.parts.Item.TheVariants as items
use Rattle.gic_switch.proofs.names.enter_lines.Given as goal

-- the lines so far are entered
abbrev pub invariant-loop-place : goal.invariant-loop-place
invariant-loop-place l = (q : List ℕ) → get same l.named q ≡ option_or (get same l.fn.named q) (option_map items.Line (place_in (map (λ (x : Line). x.name) (take l.place l.lines)) q))
