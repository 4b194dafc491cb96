use Rattle.std.proofs.Common.{subst}
use Rattle.gic_view.specs.View.{View}
use Rattle.gic_view.proofs.Seen.{IsSeen, peaks_seen, seen_in_turn}
use Rattle.gic_view.proofs.peaks.Peaks.see.Goals as goal

pub returns-clause-peaks : goal.returns-clause-peaks
returns-clause-peaks c views peaks =
    let one = c.see_nodes.new.peaks in
    let two = c.see_elements.new.peaks in
    let after = c.see_transformers.new.peaks in
    let nodes = c.see_nodes.ensures in
    let elements = c.see_elements.ensures in
    let transformers = c.see_transformers.ensures in
    let seen = seen_in_turn c.self.inside.view c.args.view.now one two after nodes.rest elements.rest transformers.rest
    nodes.count elements.count transformers.count nodes.value elements.value transformers.value transformers.ordered in
    peaks_seen views c.args.self.now c.args.view.now after c.requires.lengths
    (subst (λ (v : View). IsSeen v c.args.view.now after) c.self.view_is seen) peaks
