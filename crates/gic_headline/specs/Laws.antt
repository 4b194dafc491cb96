-- That each call keeps the headline, and each run of the program.
use Rattle.std.specs.Prelude.{ℕ, List}
use Rattle.std.specs.declared.option.Option.{Option}
use Rattle.gic_files.specs.Files.{Files}
use Rattle.gic_study.specs.Answers.{Call, CallEnds, Moment}
use Rattle.gic_study.specs.ProgramEnds.{ProgramEnds}
use Rattle.gic_headline.specs.Headline.{Headline}
use Rattle.gic_headline.specs.Program.{ProgramHeadline}

-- however a call ended
abbrev pub EachCallKeepsTheHeadline : Type 0
EachCallKeepsTheHeadline = (call : Call) (status : ℕ) → CallEnds call status → Headline call status

-- however a run of the program ended
abbrev pub EachRunKeepsTheHeadline : Type 0
EachRunKeepsTheHeadline = (words : List (List ℕ)) (files : Option Files) (before now : Moment) (status : ℕ) →
    ProgramEnds words files before now status → ProgramHeadline words files before now status
