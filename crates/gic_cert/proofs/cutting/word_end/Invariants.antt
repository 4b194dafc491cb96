use Rattle.std.proofs.Common.{◌≡◌, [], take, drop}
use Rattle.gic_cert.specs.Cuts.{words_from}
use Rattle.gic_cert.proofs.cutting.word_end.Given as goal

abbrev pub invariant-loop-place : goal.invariant-loop-place
invariant-loop-place l = words_from (take l.place l.line) (drop l.place l.line) ≡ words_from [] l.line
