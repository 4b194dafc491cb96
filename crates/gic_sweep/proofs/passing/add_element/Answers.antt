use Rattle.std.proofs.Common.{sym, ◌∙◌}
use Rattle.gic_model.specs.Voltages.{number_at}
use Rattle.gic_sweep.specs.Passes.{part_down, part_up}
use Rattle.gic_sweep.proofs.Carried.{skipped, carried_down, carried_up}
use Rattle.gic_sweep.proofs.passing.add_element.Goals as goal

pub returns-then-stands-clause-low : goal.returns-then-stands-clause-low
returns-then-stands-clause-low c =
    carried_down c.args.net.now c.args.place.0 c.requires.place c.element-element.result c.element-element.ensures.value (sym c.stands.ensures.value ∙ c.if-stands.true)
    (number_at c.args.volts.now) (number_at c.args.guesses.now) c.current-flow.result.lo c.current-flow.result.hi c.current-flow.ensures.small c.current-flow.ensures.low c.current-flow.ensures.high
    c.share_down-down.result.out c.share_down-down.result.back c.args.low.now c.add_ends.new.sums c.add_ends.ensures.same_length c.share_down-down.ensures.out c.share_down-down.ensures.back c.add_ends.ensures.sums

pub returns-then-stands-clause-high : goal.returns-then-stands-clause-high
returns-then-stands-clause-high c =
    carried_up c.args.net.now c.args.place.0 c.requires.place c.element-element.result c.element-element.ensures.value (sym c.stands.ensures.value ∙ c.if-stands.true)
    (number_at c.args.volts.now) (number_at c.args.guesses.now) c.current-flow.result.lo c.current-flow.result.hi c.current-flow.ensures.small c.current-flow.ensures.low c.current-flow.ensures.high
    c.share_up-up.result.out c.share_up-up.result.back c.args.high.now c.add_ends-then-stands.new.sums c.add_ends-then-stands.ensures.same_length c.share_up-up.ensures.out c.share_up-up.ensures.back c.add_ends-then-stands.ensures.sums

pub returns-else-stands-clause-low : goal.returns-else-stands-clause-low
returns-else-stands-clause-low c = skipped c.args.net.now c.args.place.0 c.requires.place (part_down (number_at c.args.volts.now) (number_at c.args.guesses.now)) c.args.low.now (sym c.stands.ensures.value ∙ c.if-stands.false)

pub returns-else-stands-clause-high : goal.returns-else-stands-clause-high
returns-else-stands-clause-high c = skipped c.args.net.now c.args.place.0 c.requires.place (part_up (number_at c.args.volts.now) (number_at c.args.guesses.now)) c.args.high.now (sym c.stands.ensures.value ∙ c.if-stands.false)
