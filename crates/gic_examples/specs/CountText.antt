-- What a monitor that counts views prints.
use Rattle.std.specs.Prelude.{ℕ, pos, List, [], ◌∷◌}
use Rattle.std.specs.Fmt.{signed_decimal}
use Rattle.gic_text.specs.Lines.{line_text}
use Rattle.gic_monitor.specs.DwellText.{stopped}

-- a line with a count that stops at 2^64 - 1
abbrev pub count_text : ℕ → List ℕ
count_text count = line_text (signed_decimal (pos (stopped count)) ∷ [])
