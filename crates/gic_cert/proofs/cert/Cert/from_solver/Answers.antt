use Rattle.std.proofs.Common.{◌≡◌, ◌≤◌, length, slice_index, arith, sym, ap, subst, ◌∙◌}
use Rattle.std.proofs.lemmas.Int.{ints}
use Rattle.gic_model.specs.Guess.{IsSettled}
use Rattle.gic_model.specs.Voltages.{number_at}
use Rattle.gic_net.specs.Net.{standing}
use Rattle.gic_cert.specs.declared.limits.TheConstants.{MOST_CHECKED_RESIDUAL}
use Rattle.gic_cert.specs.Written.{Certificate}
use Rattle.gic_cert.specs.Step.{most_residual, checked_step}
use Rattle.gic_cert.proofs.Certified.{AreMade, IsCertified, settled_there, kept, certified}
use Rattle.gic_cert.proofs.cert.Cert.from_solver.Goals as goal
use Rattle.gic_cert.proofs.cert.Cert.from_solver.Goals.{After-asked_radii-radii}

-- what is known of the columns once they are made
columns : (c : After-asked_radii-radii) → AreMade c.args.net.now c.args.volts.now c.args.solver.now c.args.bound.now c.copy_from.new.self c.live_guesses-guesses.result.items c.asked_radii-radii.result.items c.checked_step-step.result
columns c =
    let net = c.args.net.now in
    let volts = number_at c.args.volts.now in
    let xs = c.live_guesses-guesses.result.items in
    let limits = c.nodes-nodes.ensures.limits in
    let settled : IsSettled (standing net) volts (number_at xs) =
    settled_there c.settled_step_law.ensures.live net c.args.volts.now c.args.solver.now xs limits c.requires.certifiable.settled c.live_guesses-guesses.ensures.each in
    let step_is : c.checked_step-step.result ≡ checked_step (standing net) volts (number_at xs) net.network.nodes =
    c.checked_step-step.ensures.value ∙ ap (λ ys. checked_step (standing net) volts (number_at ys) net.network.nodes) c.as_slice.ensures.value in
    record {
      certifiable = c.requires.certifiable;
      entry_count = ap length c.copy_from.ensures ∙ c.requires.certifiable.entry_count;
      entry_each = λ k inside. ap (λ vs. slice_index vs k) c.copy_from.ensures;
      guess_count = c.live_guesses-guesses.ensures.count;
      guess_each = c.live_guesses-guesses.ensures.each;
      radius_count = c.asked_radii-radii.ensures.count ∙ c.nodes-nodes.ensures.value;
      radius_each = λ k inside. c.asked_radii-radii.ensures.each k (omega (arith, inside, c.nodes-nodes.ensures.value));
      residual_small = λ k live. c.settled_step_law.ensures.residuals net volts (number_at xs) k limits settled live;
      step_is = step_is;
      step_small = omega (arith, step_is, c.settled_step_law.ensures.step net volts (number_at xs) limits settled);
    }

pub checked_step-step-requires-clause-small : goal.checked_step-step-requires-clause-small
checked_step-step-requires-clause-small c k live =
    let net = c.args.net.now in
    let volts = number_at c.args.volts.now in
    let xs = c.live_guesses-guesses.result.items in
    let limits = c.nodes-nodes.ensures.limits in
    let settled : IsSettled (standing net) volts (number_at xs) =
    settled_there c.settled_step_law.ensures.live net c.args.volts.now c.args.solver.now xs limits c.requires.certifiable.settled c.live_guesses-guesses.ensures.each in
    let small = c.settled_step_law.ensures.residuals net volts (number_at xs) k limits settled live in
    subst (λ ys. most_residual (standing net) volts (number_at ys) k ≤ MOST_CHECKED_RESIDUAL) (sym c.as_slice.ensures.value) (omega (arith, small))

pub from_columns-requires : goal.from_columns-requires
from_columns-requires c =
    let made = columns (goal.at.from_columns-requires c).After-asked_radii-radii in
    kept made (goal.at.from_columns-requires c).After-asked_radii-radii.nodes-nodes.ensures.limits _ _ (omega (arith, ints, c.requires.north)) (omega (arith, ints, c.requires.east))

pub returns : goal.returns
returns c =
    let made = columns (goal.at.returns c).After-asked_radii-radii in
    let right : IsCertified c.args.net.now c.args.volts.now c.args.solver.now c.args.bound.now c.from_columns.result =
    subst (IsCertified c.args.net.now c.args.volts.now c.args.solver.now c.args.bound.now) (sym c.from_columns.ensures)
    (certified made c.nodes-nodes.ensures.limits _ _ (omega (arith, ints, c.requires.north)) (omega (arith, ints, c.requires.east))) in
    record {
      field = (
        ap (λ (d : Certificate). d.north) c.from_columns.ensures ∙ (omega (arith, ints, c.requires.north)),
        ap (λ (d : Certificate). d.east) c.from_columns.ensures ∙ (omega (arith, ints, c.requires.east)),
      );
      passes = right.passes;
      made = right.made;
      small = right.small;
    }
