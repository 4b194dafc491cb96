-- The nodes that were reached, as a list with marks keeps them.
use Rattle.std.specs.Prelude.{ℕ, ◌≡◌, ◌<◌, ◌==◌, Bool, false, List, [], ◌∷◌, ◌++◌, length, take, slice_index_or, IsTrue, if◌then◌else◌}
use Rattle.std.specs.List.{list_any, count_by, All}

-- how many nodes there are, and those that were reached, in their order
pub record ScratchView : Type 0 where
  pub nodes : ℕ
  pub reached : List ℕ

-- whether the node k was reached
abbrev pub is_reached : List ℕ → ℕ → Bool
is_reached reached k = list_any (λ m. m == k) reached

-- the same as a fact
abbrev pub IsReached : List ℕ → ℕ → Type 0
IsReached reached k = IsTrue (is_reached reached k)

-- the nodes with the node k, which is the last one unless it was among them
abbrev pub with_node : List ℕ → ℕ → List ℕ
with_node reached k = if is_reached reached k then reached else reached ++ k ∷ []

-- the first `count` in the queue are the marked nodes, each once
pub record IsMarked (marks : List Bool) (queue : List ℕ) (count : ℕ) : Type 0 where
  pub space : length queue ≡ length marks
  pub counted : count_by (λ mark. mark) marks ≡ count
  pub marked : (k : ℕ) → k < length marks → slice_index_or marks k false ≡ is_reached (take count queue) k
  pub inside : All (λ k. k < length marks) (take count queue)
