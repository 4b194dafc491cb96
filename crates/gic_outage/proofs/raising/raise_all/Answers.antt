use Rattle.std.proofs.Common.{◌+◌, ◌<◌, List, Option, length, map, arith, sym, subst}
use Rattle.gic_fixed.specs.Ends.{Ends, ends_of}
use Rattle.gic_worst.specs.Rows.{screen_row_of}
use Rattle.gic_outage.specs.Taking.{worsts_in}
use Rattle.gic_outage.proofs.Raised.{AreRaisedBelow, none_raised, one_raised, row_shown}
use Rattle.gic_outage.proofs.raising.raise_all.Goals as goal

pub raise-requires : goal.raise-requires
raise-requires c = omega (arith, c.loop-place.invariant.count, c.loop-place-test.true, c.requires)

pub loop-place-init : goal.loop-place-init
loop-place-init c = none_raised (worsts_in (map screen_row_of c.args.rows.now)) c.args.greatest.now

pub loop-place-preserved : goal.loop-place-preserved
loop-place-preserved c =
    let l = c.loop-place in
    let rows = c.args.rows.now in
    let worsts = worsts_in (map screen_row_of rows) in
    let within : l.place < length l.greatest = omega (arith, l.invariant.count, c.loop-place-test.true, c.requires) in
    subst (λ (cells : List (Option Ends)). AreRaisedBelow worsts (l.place + 1) c.args.greatest.now cells) (sym c.raise.ensures)
    (one_raised worsts l.place c.args.greatest.now l.greatest (ends_of c.index-rows-place.result.worst) within (row_shown rows c.index-rows-place.result l.place c.loop-place-test.true c.index-rows-place.is) l.invariant)
