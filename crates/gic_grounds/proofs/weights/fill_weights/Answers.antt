use Rattle.std.proofs.Common.{length, ap, arith, ◌∙◌}
use Rattle.gic_grounds.proofs.Weighing.{weights_most_at, none_filled_in}
use Rattle.gic_grounds.proofs.weights.fill_weights.Goals as goal

pub fill_scaled-requires-clause-most : goal.fill_scaled-requires-clause-most
fill_scaled-requires-clause-most c =
    weights_most_at c.args.case.now c.args.transformer c.effective_weights-weights.result c.transformers.ensures.sound c.requires.place
    c.effective_weights-weights.ensures.value c.effective_weights-weights.ensures.all

pub returns-clause-no_ground : goal.returns-clause-no_ground
returns-clause-no_ground c =
    let count = ap length c.requires.elements in
    none_filled_in c.args.case.now c.args.transformer c.weight_times-times.result c.effective_weights-weights.result c.fill_scaled.new.out c.requires.place
    c.effective_weights-weights.ensures.all (c.fill_scaled.ensures.same_count ∙ c.requires.space ∙ count)
    (λ place less. c.fill_scaled.ensures.each place (omega (arith, less, count)))
