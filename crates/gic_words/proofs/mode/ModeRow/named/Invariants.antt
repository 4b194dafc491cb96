use Rattle.std.proofs.Common.{◌≡◌, drop, map}
use Rattle.gic_words.specs.Seen.{row_seen}
use Rattle.gic_words.specs.Table.{first_named, row_named}
use Rattle.gic_words.proofs.mode.ModeRow.named.Given as goal

-- the rows that are left decide
abbrev pub invariant-loop-row : goal.invariant-loop-row
invariant-loop-row l = first_named l.word (map row_seen (drop l.row-index l.row-items)) ≡ row_named l.word
