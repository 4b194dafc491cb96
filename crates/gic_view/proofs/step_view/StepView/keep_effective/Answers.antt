use Rattle.std.proofs.Common.{List, map, slice_set, ap, ◌∙◌}
use Rattle.std.proofs.lemmas.List.{map-set}
use Rattle.gic_fixed.specs.Ends.{Ends}
use Rattle.gic_view.specs.View.{View}
use Rattle.gic_view.specs.KeptEnds.{kept_ends, cell_ends}
use Rattle.gic_view.proofs.step_view.StepView.keep_effective.Goals as goal

pub returns : goal.returns
returns c =
    let shown : List Ends → View = λ xs. record { number = c.self.inside.number; time = c.self.inside.time; nodes = map cell_ends c.self.inside.nodes.items; elements = map cell_ends c.self.inside.elements.items; effective = xs } in
    let changed : View → View = λ v. record v { effective = slice_set v.effective c.args.transformer (kept_ends c.args.kept) } in
    ap shown (map-set kept_ends c.self.inside.effective.items c.args.transformer c.args.kept) ∙ ap changed c.self.view_is
