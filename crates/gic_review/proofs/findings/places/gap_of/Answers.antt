use Rattle.std.proofs.Common.{FitsSigned, w32, arith, rules}
use Rattle.std.proofs.lemmas.Int.{ints}
use Rattle.gic_review.proofs.LaidOut.{gap_by}
use Rattle.gic_review.proofs.findings.places.gap_of.Goals as goal

pub returns-clause-value : goal.returns-clause-value
returns-clause-value c =
    let from = c.requires.from in
    let to = c.requires.to in
    let north : FitsSigned w32 c.args.span.now.north = search rules in
    let east : FitsSigned w32 c.args.span.now.east = search rules in
    gap_by _ c.args.from.now c.args.span.now c.args.to.now (omega (arith, ints, from.north_near, to.north_near, north)) (omega (arith, ints, from.east_near, to.east_near, east))

pub returns-clause-near : goal.returns-clause-near
returns-clause-near c =
    let from = c.requires.from in
    let to = c.requires.to in
    let north : FitsSigned w32 c.args.span.now.north = search rules in
    let east : FitsSigned w32 c.args.span.now.east = search rules in
    record { north_near = omega (arith, ints, from.north_near, to.north_near, north); east_near = omega (arith, ints, from.east_near, to.east_near, east) }
