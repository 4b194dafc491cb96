-- What is known of a library that is kept in memory.
use Rattle.std.specs.Prelude.{◌≡◌, ◌⊎◌, ℕ, List, None, Result, IsErrOf, true}
use Rattle.std.specs.FinMap.{from_entries, get}
use Rattle.gic_base.specs.Memory.{is_failing, next}
use Rattle.gic_files.specs.Fetches.{FailsOrLacksMemory}
use Rattle.gic_files.specs.Files.{Files}
use Rattle.gic_files.specs.declared.library.FetchRefusal.{FetchRefusal}
use Rattle.gic_files.specs.declared.library.FetchRefusal.TheVariants.{Failed}

-- files by name, the numbers of the calls that fail, the number of the next call, the names that were fetched, and those whose fetch failed
pub record Shelf : Type 0 where
  pub files : List (List ℕ × List ℕ)
  pub failing : List ℕ
  pub calls : ℕ
  pub fetched : List (List ℕ)
  pub failures : List (List ℕ)

-- the first of a name counts
abbrev pub files_of : List (List ℕ × List ℕ) → Files
files_of files = from_entries files

-- a fetch of this name is the next call: it fails, or wants memory, where its number is one that fails, and else fails only at a missing name; it is counted, and the numbers stay
pub record IsNextCall (before now : Shelf) (name : List ℕ) (answer : Result (Unit {0}) FetchRefusal) : Type 0 where
  pub fails : is_failing before.failing before.calls ≡ true → FailsOrLacksMemory answer
  pub only : IsErrOf answer Failed → (is_failing before.failing before.calls ≡ true) ⊎ (get (files_of before.files) name ≡ None)
  pub counted : now.calls ≡ next before.calls
  pub numbers : now.failing ≡ before.failing
