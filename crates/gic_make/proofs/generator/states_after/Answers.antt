use Rattle.std.proofs.Common.{◌≡◌, ◌-◌, arith}
use Rattle.gic_make.proofs.States.{state_more, state_last}
use Rattle.gic_make.proofs.generator.states_after.Goals as goal

pub loop-init : goal.loop-init
loop-init c = let all : c.args.count - 0 ≡ c.args.count = omega arith in rw (c.new-states.ensures.items, all)

pub loop-preserved : goal.loop-preserved
loop-preserved c =
    state_more _ _ _ c.loop.state _ c.args.count c.loop.counter (omega arith) c.next_state-state.ensures c.in_ok-push.ensures.items c.loop.invariant

pub returns : goal.returns
returns c = state_last _ _ c.loop.state c.args.count c.loop.counter (omega arith) c.loop.invariant
