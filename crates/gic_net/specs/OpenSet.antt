-- The set of the open items, by a mark for each number of an item.
use Rattle.std.specs.Prelude.{Bool, List, map}
use Rattle.std.specs.List.{filter, enumerate_from}
use Rattle.std.specs.FinSet as set
use Rattle.gic_net.specs.Switched.{Items}

-- the numbers that are marked
abbrev pub open_set : List Bool → Items
open_set opened = set.from_list (map (λ p. p.0) (filter (λ p. p.1) (enumerate_from 0 opened)))
