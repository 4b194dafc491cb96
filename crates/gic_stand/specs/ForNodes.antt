-- What a search for a bound vector works on.
use Rattle.std.specs.Prelude.{ℕ, ◌≡◌, List, length}

-- the vector has an entry for each of this many nodes, and the start has space for them
pub record IsStartForNodes (nodes : ℕ) (vector : List ℕ) (start : ℕ) : Type 0 where
  pub entry_count : length vector ≡ nodes
  pub start_count : start ≡ nodes
