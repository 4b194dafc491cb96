use Rattle.std.proofs.Common.{◌≡◌, List, ℕ, ap, ◌∙◌}
use Rattle.gic_monitor.specs.LossText.{least_loss, most_loss}
use Rattle.gic_monitor.proofs.UnitSums.{least_of_view, most_of_view}
use Rattle.gic_monitor.proofs.loss.total.total_of.Goals as goal

pub returns : goal.returns
returns c =
    let factors = c.args.factors.now in
    let view = c.args.view.now in
    let low : c.sum_of_losses.result.lo ≡ least_loss factors view =
    c.sum_of_losses.ensures.low ∙ ap (λ (xs : List ℕ). least_loss xs view) c.shown_factors.ensures.value ∙ least_of_view factors view in
    let high : c.sum_of_losses.result.hi ≡ most_loss factors view =
    c.sum_of_losses.ensures.high ∙ ap (λ (xs : List ℕ). most_loss xs view) c.shown_factors.ensures.value ∙ most_of_view factors view in
    let number = c.number.ensures in
    cc
