use Rattle.std.proofs.Common.{◌≡◌, length, map, arith}
use Rattle.std.proofs.lemmas.List.{length-map}
use Rattle.gic_cert.specs.declared.limits.TheConstants.{MOST_WORDS}
use Rattle.gic_cert.proofs.CutLaws.{first_words}
use Rattle.gic_cert.proofs.cutting.words_in.Goals as goal

pub returns : goal.returns
returns c =
    let many : length (map (λ w. w.now) c.loop-turn.words.items) ≡ MOST_WORDS = omega (arith, length-map c.loop-turn.words.items (λ w. w.now), c.loop-turn.invariant.count, c.loop-turn-test.false, c.loop-turn.auto.turn-end) in
    first_words _ _ _ many c.loop-turn.invariant.words
