-- What an output and an error stream in memory hold after a run over files in memory.
use Rattle.std.specs.Prelude.{◌≡◌, ℕ, List, ◌++◌}
use Rattle.gic_files.specs.Files.{Files}
use Rattle.gic_words.specs.Requests.{request_of}
use Rattle.gic_ask.specs.Held.{held_for}
use Rattle.gic_ask.specs.Outcome.{outcome, Accepts}
use Rattle.gic_ask.specs.declared.request.Asked.{Asked}
use Rattle.gic_study.specs.Faults.{status_of_fault, line_of_fault}
use Rattle.gic_study.specs.Modes.{IsRightText}
use Rattle.gic_study.specs.ProgramPlans.{program_plans}
use Rattle.gic_study.specs.declared.fault.Fault.{Fault}

-- the words and these files ask for a report, and the text is all of a right one, with the monitors of the program
pub record IsReport (words : List (List ℕ)) (files : Files) (text : List ℕ) : Type 0 where
  pub asked : Asked
  pub accepted : outcome words (held_for files (request_of words)) ≡ Accepts asked
  pub right : IsRightText program_plans asked text

-- the bytes are the line of a fault with this status, or a prefix of it
pub record IsLineOfStatus (status : ℕ) (bytes : List ℕ) : Type 0 where
  pub fault : Fault
  pub status_is : status ≡ status_of_fault fault
  pub rest : List ℕ
  pub line_is : line_of_fault fault ≡ bytes ++ rest
