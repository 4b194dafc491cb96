use Rattle.std.proofs.Common.{◌≡◌, ◌+◌, ◌++◌, length, take, drop, subst, sym, arith}
use Rattle.std.proofs.lemmas.List.{take_at}
use Rattle.gic_net.specs.Rows.{AreFullRows}
use Rattle.gic_net.proofs.FullRows.{full_more}
use Rattle.gic_net.proofs.rows.full_rows.Goals as goal

pub loop-place-preserved : goal.loop-place-preserved
loop-place-preserved c =
    let new = c.push_ends.new.rows in
    let whole : take c.loop-place.rows.len (new ++ drop (length new) c.loop-place.rows.items) ≡ new =
    take_at new (drop (length new) c.loop-place.rows.items) c.loop-place.rows.len (omega (arith, c.in_ok-push_ends.ensures.count, c.as_mut_slice.ensures.len)) in
    subst (AreFullRows c.args.nodes (take (c.loop-place.place + 1) c.args.list.now)) (sym whole)
    (full_more c.args.nodes c.args.list.now c.loop-place.place _ c.loop-place.rows.items c.as_mut_slice.result.now new (omega arith) c.loop-place.invariant c.as_mut_slice.ensures.value c.in_ok-push_ends.ensures)
