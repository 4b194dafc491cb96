-- A row of the program's table of modes, as the definitions have it. For the contracts of this crate.
use Rattle.gic_words.specs.Table.{ModeRow}
use Rattle.gic_words.specs.declared.mode.ModeRow.{ModeRow as Written}

abbrev pub row_seen : Written → ModeRow
row_seen r = record { mode = r.mode; word = r.word.now; required = r.required.now; allowed = r.allowed.now }
