use Rattle.std.proofs.Common.{◌≡◌, ◌<◌, ◌+◌, ◌++◌, ◌∷◌, [], length, drop, arith, sym, ap, ◌∙◌, append_assoc, refl}
use Rattle.gic_model.specs.Standing.{rows_in_force}
use Rattle.gic_storm.specs.Steps.{steps_in, time_of_step}
use Rattle.gic_switch.proofs.Runs.{runs_after, counts_of, same_run, next_run, last_run, next_no_fewer}
use Rattle.gic_switch.proofs.epoch.epochs.Goals as goal
use Rattle.gic_switch.proofs.epoch.epochs.Goals.{then-through-epoch, else-through-epoch+in_ok-push}

pub through_at-through-requires-clause-least : goal.through_at-through-requires-clause-least
through_at-through-requires-clause-least c =
    let l = c.loop-number in
    let steps = c.steps-steps.ensures in
    let more = next_no_fewer c.args.storm.now.rows c.args.switchings.now l.epoch.last steps.sound.ordered (omega arith) (omega arith) in
    rw (c.time_of_step-in-loop-number.ensures, c.rows-rows.ensures.value, ← l.invariant.last) (omega (arith, more, l.invariant.count))

pub loop-number-preserved : goal.loop-number-preserved
loop-number-preserved c =
    let l = c.loop-number in
    let storm = c.args.storm.now.rows in
    let rows = c.args.switchings.now in
    let within : l.epoch.last < length (steps_in storm) = omega (arith, c.steps-steps.ensures.value) in
    let through = c.through_at-through.result in
    let own : through ≡ length (rows_in_force (time_of_step storm (l.epoch.last + 1)) rows) =
    rw (c.time_of_step-in-loop-number.ensures, c.rows-rows.ensures.value, ← l.invariant.last) at c.through_at-through.ensures in
    elim c.if-through-epoch.branch [
      | then-through-epoch w ↦ rw (w.epoch-is, w.epochs-is, ← l.invariant.last) (record {
        last = refl;
        count = sym w.if-through-epoch.true ∙ own;
        rest = ap (λ xs. l.epochs.items ++ xs) (same_run storm rows l.epoch.first l.epoch.last l.epoch.through within (sym own ∙ w.if-through-epoch.true)) ∙ l.invariant.rest;
      })
      | else-through-epoch+in_ok-push w ↦ rw (w.epoch-is, w.epochs-is, w.in_ok-push.ensures.items, ← l.invariant.last) (record {
        last = refl;
        count = own;
        rest =
            append_assoc l.epochs.items (l.epoch ∷ []) (runs_after (l.epoch.last + 1) (l.epoch.last + 1) through (drop (l.epoch.last + 1) (counts_of storm rows)))
            ∙ ap (λ xs. l.epochs.items ++ xs) (next_run storm rows l.epoch.first l.epoch.last l.epoch.through through within own w.if-through-epoch.false) ∙ l.invariant.rest;
      })
    ]

pub returns : goal.returns
returns c =
    let l = c.loop-number in
    let steps = c.steps-steps.ensures in
    let end : l.epoch.last ≡ length (steps_in c.args.storm.now.rows) = omega arith in
    rw c.in_ok-push-2.ensures.items (last_run c.args.storm.now.rows c.args.switchings.now l.epochs.items l.epoch c.rows-rows.ensures.sound.ordered end l.invariant.rest)
