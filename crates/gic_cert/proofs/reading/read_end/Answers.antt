use Rattle.std.proofs.Common.{rules, ◌<◌, length, arith, map}
use Rattle.std.proofs.lemmas.Bool.Decides.{nat_tests}
use Rattle.gic_cert.proofs.CutLaws.{first_after}
use Rattle.gic_cert.proofs.ReadLaws.{tells}
use Rattle.gic_cert.proofs.reading.read_end.Goals as goal

pub returns-clause-first : goal.returns-clause-first
returns-clause-first c =
    let some : 0 < length c.in_ok-line.line.left.now = grind (arith, nat_tests, c.is_empty-2.ensures, c.if-is_empty-2.false) in
    tells _ _ (first_after c.args.row (map (λ w. w.now) c.in_ok-line.line.words.items) c.args.text.now c.in_ok-line.line.left.now c.in_ok-line.ensures
    (search (rules, c.is_only.ensures, c.if-not-is_only.false, c.as_slice.ensures)) some)
