-- How the sizes of parts are counted.
use Rattle.std.specs.Prelude.{ℕ, ◌==◌, nat_le, List, length, map, count_by, if◌then◌else◌}
use Rattle.std.specs.List.{range_with_len}
use Rattle.gic_model.specs.Network.{Network}
use Rattle.gic_review.specs.Union.{firsts_of}

-- how many nodes have the node k as their first
abbrev pub times_first : List ℕ → (k : ℕ) → ℕ
times_first firsts k = count_by (λ first. first == k) firsts

-- a node that nothing is joined to is no part
abbrev pub part_size : (count : ℕ) → ℕ
part_size count = if nat_le 2 count then count else 0

-- for each node how many nodes the part has whose first node it is, and 0 where it is no such node
abbrev pub sizes_by : List ℕ → List ℕ
sizes_by firsts = map (λ k. part_size (times_first firsts k)) (range_with_len 0 (length firsts))

abbrev pub sizes_of : Network → List ℕ
sizes_of network = sizes_by (firsts_of network)
