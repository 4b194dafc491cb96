use Rattle.std.proofs.Common.{◌≡◌, ◌≤◌, ◌++◌, [], length, map}
use Rattle.gic_cert.specs.Cuts.{words_from}
use Rattle.gic_cert.proofs.cutting.words_in.Given as goal

-- the words so far and those of the bytes that are left are the line's
abbrev pub invariant-loop-turn : goal.invariant-loop-turn
invariant-loop-turn l = record {
  count : length l.words.items ≡ l.turn;
  short : length l.left ≤ length l.line;
  words : (map (λ w. w.now) l.words.items ++ words_from [] l.left) ≡ words_from [] l.line;
}
