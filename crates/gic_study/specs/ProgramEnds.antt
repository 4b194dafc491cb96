-- How the program ends.
use Rattle.std.specs.Prelude.{◌≡◌, ℕ, List}
use Rattle.std.specs.declared.option.Option.{Option}
use Rattle.std.specs.declared.io.ErrorKind.{ErrorKind}
use Rattle.std.specs.declared.io.ErrorKind.TheVariants.{OutOfMemory}
use Rattle.gic_files.specs.Files.{Files}
use Rattle.gic_study.specs.Answers.{CallEnds, Moment}
use Rattle.gic_study.specs.ProgramPlans.{program_plans}

-- with this status, before a file was fetched or a byte written
pub record EndsAtOnce (code : ℕ) (before now : Moment) (status : ℕ) : Type 0 where
  pub status_is : status ≡ code
  pub kept : now ≡ before

-- with these words: as the top call with the program's monitors
abbrev pub ProgramEnds : (words : List (List ℕ)) (files : Option Files) (before now : Moment) (status : ℕ) → Type 0
ProgramEnds words files before now status = CallEnds (record { words = words; files = files; plans = program_plans; before = before; now = now }) status

-- the status where the words can't be had: out of memory is told apart
abbrev pub status_without_words : ErrorKind → ℕ
status_without_words OutOfMemory = 11
status_without_words _ = 2
