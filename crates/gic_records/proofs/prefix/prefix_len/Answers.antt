use Rattle.std.proofs.Common.{◌∙◌, sym, arith}
use Rattle.gic_records.specs.Prefix.{state_of, action_of}
use Rattle.gic_records.proofs.Prefixes.{prefix_at, prefix_stops_at, prefix_none, ended_within}
use Rattle.gic_records.proofs.prefix.prefix_len.Goals as goal

pub returns-then-ends_wide-clause-value : goal.returns-then-ends_wide-clause-value
returns-then-ends_wide-clause-value c =
    let l = c.loop-i in
    let none = prefix_stops_at (state_of l.place) l.ended l.i c.args.text.now (state_of c.step-next.result.0, action_of c.step-next.result.1) c.loop-i-test.true c.step-next.ensures (sym c.ends_wide.ensures ∙ c.if-ends_wide.true) in
    omega (arith, l.invariant.prefix, none)

pub loop-i-preserved : goal.loop-i-preserved
loop-i-preserved c =
    let l = c.loop-i in
    let goes = sym c.ends_wide.ensures ∙ c.if-ends_wide.false in
    let more = prefix_at (state_of l.place) l.ended l.i c.args.text.now (state_of c.step-next.result.0, action_of c.step-next.result.1) c.loop-i-test.true c.step-next.ensures goes in
    rw c.ended_after-ended.ensures
    (record {
      ended = ended_within (action_of c.step-next.result.1) l.ended l.invariant.ended goes;
      prefix = omega (arith, l.invariant.prefix, more);
    })

pub returns-clause-value : goal.returns-clause-value
returns-clause-value c =
    let l = c.loop-i in
    let none = prefix_none (state_of l.place) l.ended l.i c.args.text.now c.loop-i-test.false in
    omega (arith, l.invariant.prefix, none, c.loop-i-test.false, l.auto.i-end)
