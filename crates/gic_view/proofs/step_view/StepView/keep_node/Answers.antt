use Rattle.std.proofs.Common.{List, Option, map, slice_set, ap, ◌∙◌}
use Rattle.std.proofs.lemmas.List.{map-set}
use Rattle.gic_fixed.specs.Ends.{Ends}
use Rattle.gic_view.specs.View.{View}
use Rattle.gic_view.specs.KeptEnds.{kept_ends, optional_kept, cell_ends}
use Rattle.gic_view.proofs.step_view.StepView.keep_node.Goals as goal

pub returns : goal.returns
returns c =
    let items = c.self.inside.nodes.items in
    let shown : List (Option Ends) → View = λ xs. record { number = c.self.inside.number; time = c.self.inside.time; nodes = xs; elements = map cell_ends c.self.inside.elements.items; effective = map kept_ends c.self.inside.effective.items } in
    let changed : View → View = λ v. record v { nodes = slice_set v.nodes c.args.node.0 (optional_kept c.args.kept) } in
    ap shown (map-set cell_ends items c.args.node.0 c.cell_of.result ∙ ap (slice_set (map cell_ends items) c.args.node.0) c.cell_of.ensures)
    ∙ ap changed c.self.view_is
