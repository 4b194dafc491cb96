-- What a library that tells its files has of the files that words name, and that the answer is that of the files.
use Rattle.std.specs.Prelude.{ℕ, List, Result, Ok, Err, None, Some, Bool, true, false, length, nat_lt}
use Rattle.std.specs.declared.option.Option.{Option}
use Rattle.std.specs.FinMap.{get}
use Rattle.gic_files.specs.Files.{Files, Fetches}
use Rattle.gic_base.specs.declared.limits.TheConstants.{LIMIT}
use Rattle.gic_words.specs.Requests.{request_of}
use Rattle.gic_words.specs.declared.request.Request.{Request}
use Rattle.gic_words.specs.declared.fault.Usage.{Usage}
use Rattle.gic_ask.specs.Asks.{Asks, IsAnswer, CouldNotRead}
use Rattle.gic_ask.specs.Contents.{Given, Absent, Long, Whole, Contents, names_in, name_of_file}
use Rattle.gic_ask.specs.Outcome.{outcome}
use Rattle.gic_ask.specs.declared.fault.File.{File}
use Rattle.gic_ask.specs.declared.fault.InputFault.{InputFault}
use Rattle.gic_ask.specs.declared.request.Asked.{Asked}

-- too many bytes are told as such
abbrev pub held_by_length : Bool → List ℕ → Given
held_by_length true bytes = Long
held_by_length false bytes = Whole bytes

-- bytes that are there, or not
abbrev pub held_bytes : Option (List ℕ) → Given
held_bytes None = Absent
held_bytes (Some bytes) = held_by_length (nat_lt LIMIT (length bytes)) bytes

-- what the files have under a name that may be given
abbrev pub held : Files → (name : Option (List ℕ)) → Given
held files None = Absent
held files (Some name) = held_bytes (get files name)

-- what they have of each file that the words name
abbrev pub held_for : Files → Result Request Usage → Contents
held_for files (Ok r) file = held files (name_of_file file (names_in r))
held_for files (Err u) file = Absent

-- where no fetch of a named file failed, the answer is that of the files
abbrev pub AnswersOfFiles : Type 0
AnswersOfFiles = (words : List (List ℕ)) (files : Files) (before now : Fetches) (answer : Result Asked InputFault) →
    Asks words (Some files) before now answer → ((file : File) → ¬ CouldNotRead words file before.failures now.failures) →
    IsAnswer (outcome words (held_for files (request_of words))) answer
