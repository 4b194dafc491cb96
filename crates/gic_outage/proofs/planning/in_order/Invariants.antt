use Rattle.std.proofs.Common.{◌≡◌, map}
use Rattle.std.specs.List.{range_with_len}
use Rattle.gic_model.specs.declared.parts.Item.TheVariants.{Line}
use Rattle.gic_outage.specs.Plan.{in_order}
use Rattle.gic_outage.proofs.planning.in_order.Given as goal

-- the lines so far
abbrev pub invariant-loop-place : goal.invariant-loop-place
invariant-loop-place l = l.items.items ≡ map Line (range_with_len 0 l.place)

-- all lines, and the transformers so far
abbrev pub invariant-loop-place-2 : goal.invariant-loop-place-2
invariant-loop-place-2 l = l.items.items ≡ in_order l.lines l.place
