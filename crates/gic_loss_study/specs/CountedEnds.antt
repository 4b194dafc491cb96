-- What the monitors of this program print, and how it ends.
use Rattle.std.specs.Prelude.{ℕ, ℤ, pos, unsigned_abs, List, [], ◌∷◌, take, None, Some, ◌⊎◌}
use Rattle.std.specs.declared.option.Option.{Option}
use Rattle.gic_files.specs.Files.{Files}
use Rattle.gic_text.specs.Decimal.{read_decimal}
use Rattle.gic_monitor.specs.DwellText.{dwell_text}
use Rattle.gic_monitor.specs.EarthText.{earth_text}
use Rattle.gic_monitor.specs.LossText.{volt_text, table_text}
use Rattle.gic_monitor.specs.declared.loss.table_loss.NamedFactor.{NamedFactor}
use Rattle.gic_study.specs.Answers.{CallEnds, Moment}
use Rattle.gic_study.specs.Modes.{Plans}
use Rattle.gic_study.specs.ProgramEnds.{EndsAtOnce}

-- those of `gicstudy`, and of losses by a table
abbrev pub four_plans : List NamedFactor → Plans
four_plans table roster views = dwell_text roster views ∷ earth_text roster views ∷ volt_text 1 roster views ∷ table_text table roster views ∷ []

-- as the top call does with the first of these monitors, with some table; or at once with 11 where memory is wanting for them
abbrev pub FirstEnds : (count : ℕ) (words : List (List ℕ)) (files : Option Files) (before now : Moment) (status : ℕ) → Type 0
FirstEnds count words files before now status =
    ((table : List NamedFactor) × CallEnds (record { words = words; files = files; plans = λ roster views. take count (four_plans table roster views); before = before; now = now }) status)
    ⊎ EndsAtOnce 11 before now status

-- by the number that the first word writes: 2 where it is none of 0 to 4
abbrev pub CountEnds : (count : Option ℤ) (words : List (List ℕ)) (files : Option Files) (before now : Moment) (status : ℕ) → Type 0
CountEnds None words files before now status = EndsAtOnce 2 before now status
CountEnds (Some count) words files before now status = FirstEnds (unsigned_abs count) words files before now status

-- by the words: how many of the monitors see the steps, and then the words of `gicstudy`
abbrev pub CountedEnds : (words : List (List ℕ)) (files : Option Files) (before now : Moment) (status : ℕ) → Type 0
CountedEnds [] files before now status = EndsAtOnce 2 before now status
CountedEnds (word ∷ words) files before now status = CountEnds (read_decimal word (pos 0) (pos 4)) words files before now status
