-- A reader of records that is on its way.
use Rattle.std.specs.Prelude.{◌≡◌, ℕ, ◌+◌, List, [], ◌∷◌, length, Bool, true, false, Option, Some, None, IsSome}
use Rattle.std.specs.Borrow.{Bor}
use Rattle.csv.specs.Reading.{default_config, records_from, Ready, source_of, is_flexible, reader_config, reader_trim}
use Rattle.csv.specs.declared.reader.Reader.{Reader}
use Rattle.csv.specs.declared.parser.State.{State}
use Rattle.csv.specs.declared.reader.Trim.TheVariants as trim

-- the records of the bytes that are left
abbrev pub records_left : State → Option (List ℕ) → List (List (List ℕ))
records_left s None = []
records_left s (Some ys) = records_from default_config (length ys + 1) s ys

-- the bytes that a reader of bytes in memory has left
abbrev pub bytes_left : Reader (Bor (List ℕ)) → Option (List ℕ)
bytes_left r = source_of (λ s. Some s.now) r

-- how a reader that has not failed stands between two records
pub record IsReading (r : Reader (Bor (List ℕ))) : Type 0 where
  pub untrimmed : reader_trim r ≡ trim.None
  pub is_ready : Ready r
  pub flexible : is_flexible r ≡ true
  pub config : reader_config r ≡ default_config
  pub known : IsSome (bytes_left r)

-- the records before a read are the one that it found and those after it, or none
abbrev pub with_found : Bool → List (List ℕ) → List (List (List ℕ)) → List (List (List ℕ))
with_found true fields after = fields ∷ after
with_found false fields after = []
