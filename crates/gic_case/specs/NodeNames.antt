-- The names of nodes that are still to come.
use Rattle.std.specs.Prelude.{ℕ, List, ◌++◌, map}
use Rattle.gic_case.specs.Lists.{with_device}
use Rattle.gic_case.specs.declared.node.NodeNames.{NodeNames}

-- the names of the nodes that are left, in node order
abbrev pub names_left : NodeNames → List (List ℕ)
names_left s = map (λ s. s.name) s.substations.now ++ (map (λ b. b.name) s.buses.now ++ map (λ t. t.name) (with_device s.transformers.now))
