use Rattle.std.proofs.Common.{◌≡◌, ◌++◌, drop}
use Rattle.std.specs.List.{flat_map}
use Rattle.gic_case.specs.Lists.{grid_of, device_ends}
use Rattle.gic_case_reader.proofs.ends.push_device_ends.Given as goal

-- the ends so far and those that are left are all of them
abbrev pub invariant-loop-neutral : goal.invariant-loop-neutral
invariant-loop-neutral l =
    l.ends.items ++ flat_map (λ p. device_ends p.0 (grid_of l.buses p.1) p.1.neutral) (drop l.neutral-index l.neutrals)
    ≡ l.fn.ends.items ++ flat_map (λ p. device_ends p.0 (grid_of l.buses p.1) p.1.neutral) l.neutrals
