-- That a number lies in the range of its option. For the contracts of this crate.
use Rattle.std.specs.Prelude.{ℤ, ◌≤ℤ◌}
use Rattle.gic_words.specs.Table.{form_of}
use Rattle.gic_words.specs.declared.option.Opt.{Opt}
use Rattle.gic_words.specs.declared.option.Form.{Form}
use Rattle.gic_words.specs.declared.option.Form.TheVariants as form

-- the number lies in the range of the form; other forms have none
abbrev pub IsWithinForm : Form → ℤ → Type 0
IsWithinForm form.Name n = ⊥
IsWithinForm (form.Number least most) n = (least ≤ℤ n) × (n ≤ℤ most)
IsWithinForm form.Event n = ⊥

-- the number lies in the range of the option
abbrev pub IsWithinOption : Opt → ℤ → Type 0
IsWithinOption o n = IsWithinForm (form_of o) n
