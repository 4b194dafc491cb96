-- What a run of the program says.
use Rattle.std.specs.Prelude.{ℕ, List}
use Rattle.std.specs.declared.option.Option.{Option}
use Rattle.gic_files.specs.Files.{Files}
use Rattle.gic_study.specs.Answers.{Moment}
use Rattle.gic_study.specs.ProgramPlans.{program_plans}
use Rattle.gic_headline.specs.Headline.{Headline}

-- with these words: the headline, with the program's monitors
abbrev pub ProgramHeadline : (words : List (List ℕ)) (files : Option Files) (before now : Moment) (status : ℕ) → Type 0
ProgramHeadline words files before now status = Headline (record { words = words; files = files; plans = program_plans; before = before; now = now }) status
