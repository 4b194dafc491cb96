use Rattle.std.proofs.Common.{◌≡◌, ◌++◌, drop}
use Rattle.std.specs.List.{flat_map}
use Rattle.gic_case.specs.Lists.{winding_ends}
use Rattle.gic_case.specs.Windings.{windings_of}
use Rattle.gic_case_reader.proofs.ends.push_winding_ends.Given as goal

-- the ends so far and those that are left are all of them
abbrev pub invariant-loop-neutral : goal.invariant-loop-neutral
invariant-loop-neutral l =
    l.ends.items ++ flat_map (λ p. winding_ends l.first_bus p.0 (windings_of p.1)) (drop l.neutral-index l.neutrals)
    ≡ l.fn.ends.items ++ flat_map (λ p. winding_ends l.first_bus p.0 (windings_of p.1)) l.neutrals
