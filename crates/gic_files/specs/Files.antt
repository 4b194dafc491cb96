-- The files that a library tells of, the names that were fetched, and those whose fetch failed.
use Rattle.std.specs.Prelude.{◌≡◌, List, ◌++◌, ℕ, Contains}
use Rattle.std.specs.FinMap.{FinMap}
use Rattle.std.specs.Ordering.{nat_cmp}
use Rattle.std.specs.Cmp.Lexicographic.{slice_cmp}

-- from names to bytes
abbrev pub Files : Type 0
Files = FinMap (slice_cmp nat_cmp) (List ℕ)

-- the fetches that failed from one moment to a later one, and this name is among them
pub record HasFailed (before now : List (List ℕ)) (name : List ℕ) : Type 0 where
  pub gained : List (List ℕ)
  pub later : now ≡ before ++ gained
  pub among : Contains gained name

-- what a library tells of its fetches: the names that were fetched, and those whose fetch failed
pub record Fetches : Type 0 where
  pub fetched : List (List ℕ)
  pub failures : List (List ℕ)

abbrev pub fetches : {L : Type 0} → (fetched failures : L → List (List ℕ)) → L → Fetches
fetches fetched failures l = record { fetched = fetched l; failures = failures l }
