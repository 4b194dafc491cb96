use Rattle.std.proofs.Common.{◌≡◌, ℕ, List, [], ◌∷◌, ◌++◌, map, Option, Some, ap, sym, ◌∙◌}
use Rattle.std.specs.Prelude.{option_map}
use Rattle.std.specs.Option.{option_to_list}
use Rattle.gic_text.specs.Lines.{line_text}
use Rattle.gic_monitor.specs.LossText.{Total, loss_total_of, greatest_of, loss_line}
use Rattle.gic_monitor.specs.LossOutlook.{total_seen}
use Rattle.gic_monitor.proofs.FirstReaching.{carried}
use Rattle.gic_monitor.proofs.loss.totals.Totals.see.Goals as goal

pub returns : goal.returns
returns c = λ word views.
    let factors = c.args.self.now.factors.items in
    let so_far = option_map total_seen c.args.self.now.greatest in
    let next : total_seen c.total_of.result ≡ loss_total_of factors c.args.view.now =
    c.total_of.ensures ∙ ap (λ (xs : List ℕ). loss_total_of xs c.args.view.now) c.deref.ensures.value in
    let merged : greatest_of (option_to_list so_far ++ loss_total_of factors c.args.view.now ∷ []) ≡ Some (total_seen c.greatest.result) =
    ap (λ (t : Total). greatest_of (option_to_list so_far ++ t ∷ [])) (sym next) ∙ c.greatest.ensures in
    ap (λ (t : Option Total). line_text (loss_line word t)) (carried so_far (loss_total_of factors c.args.view.now) (total_seen c.greatest.result) (map (loss_total_of factors) views) merged)
