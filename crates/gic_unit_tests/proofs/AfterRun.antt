-- What an output and an error stream in memory hold after a run, by how the program ended.
use Rattle.std.proofs.Common.{◌≡◌, ◌≢◌, ◌∙◌, ℕ, List, [], ◌++◌, Option, Some, Ok, Err, ap, sym, subst, arith}
use Rattle.std.specs.Io.KnownBytes.{Appends}
use Rattle.gic_files.specs.Files.{Files}
use Rattle.gic_ask.specs.Held.{AnswersOfFiles}
use Rattle.gic_study.specs.Answers.{Call, Moment, Served, Tells, status_of}
use Rattle.gic_study.specs.Concluding.{Answer}
use Rattle.gic_study.specs.Faults.{line_of_fault}
use Rattle.gic_study.specs.Laws.{StatusesSay}
use Rattle.gic_study.specs.Modes.{IsRightText}
use Rattle.gic_study.specs.ProgramEnds.{ProgramEnds}
use Rattle.gic_study.specs.ProgramPlans.{program_plans}
use Rattle.gic_unit_tests.specs.Told.{IsReport, IsLineOfStatus}
use Rattle.gic_unit_tests.proofs.FilesAsk.{files_ask}

-- what was added to an empty list is all that it holds
all_added : (before now : Option (List ℕ)) (added text : List ℕ) → before ≡ Some [] → now ≡ Some text → Appends before now added → added ≡ text
all_added before now added text start end h =
    let empty : Appends (Some []) now added = subst (λ (x : Option (List ℕ)). Appends x now added) start h in
    let whole : Appends (Some []) (Some text) added = subst (λ (x : Option (List ℕ)). Appends (Some []) x added) end empty in
    sym whole

-- a call of the program over these files
abbrev call : (words : List (List ℕ)) (files : Files) (before now : Moment) → Call
call words files before now = record { words = words; files = Some files; plans = program_plans; before = before; now = now }

served : AnswersOfFiles → (words : List (List ℕ)) (files : Files) (before now : Moment) (text : List ℕ) → before.out.bytes ≡ Some [] → now.out.bytes ≡ Some text
    → Served (call words files before now) (Ok tt) → IsReport words files text
served law words files before now text start end s = record {
  asked = s.asked;
  accepted = files_ask law words files before.fetches now.fetches s.asked s.asks;
  right = subst (λ (t : List ℕ). IsRightText program_plans s.asked t) (all_added before.out.bytes now.out.bytes s.concludes.text text start end s.concludes.written) s.concludes.right;
}

pub report : AnswersOfFiles → StatusesSay → (words : List (List ℕ)) (files : Files) (before now : Moment) (status : ℕ) (text : List ℕ)
    → before.out.bytes ≡ Some [] → now.out.bytes ≡ Some text → ProgramEnds words (Some files) before now status → status ≡ 0 → IsReport words files text
report law say words files before now status text start end ends done =
    served law words files before now text start end ((say (call words files before now) status ends).done done)

module _ (before now : Moment) (status : ℕ) (text : List ℕ) (start : before.err.bytes ≡ Some []) (end : now.err.bytes ≡ Some text) (some : status ≢ 0) where
  of_answer : (answer : Answer) → status ≡ status_of answer → Tells before.err now.err answer → IsLineOfStatus status text
  of_answer (Ok done) is line = absurd (some is)
  of_answer (Err fault) is line = record {
    fault = fault;
    status_is = is;
    rest = line.part.rest;
    line_is = line.part.whole ∙ ap (λ (part : List ℕ). part ++ line.part.rest) (all_added before.err.bytes now.err.bytes line.part.part text start end line.part.appended);
  }

  -- the line of a fault, or a prefix of it
  pub told : (words : List (List ℕ)) (files : Files) → ProgramEnds words (Some files) before now status → IsLineOfStatus status text
  told words files ends = of_answer ends.answer ends.status_is ends.line
