use Rattle.std.proofs.Common.{◌≡◌, ap₂}
use Rattle.gic_effective.proofs.Weighings.{ends_by}
use Rattle.gic_fixed.specs.Ends.{ends_of, zero_ends}
use Rattle.gic_grounds.specs.Tolerated.{tolerated}
use Rattle.gic_grounds.proofs.Holding.{effect_of_own, effect_of_least, without_effect, references_in, references_of}
use Rattle.gic_grounds.proofs.workspace.VariedWorkspace.row.Goals as goal

pub returns-then-has_effect-clause-right : goal.returns-then-has_effect-clause-right
returns-then-has_effect-clause-right c rows percent north east of_nets referred =
    let v = tolerated c.args.case.now rows percent in
    c.enclose.ensures.right rows percent north east of_nets referred
    (λ none. c.has_effect.ensures.some c.if-has_effect.true (effect_of_least v c.args.self.now.nets of_nets c.args.transformer none))

pub returns-else-has_effect-clause-right : goal.returns-else-has_effect-clause-right
returns-else-has_effect-clause-right c rows percent north east of_nets referred =
    let v = tolerated c.args.case.now rows percent in
    let t = c.args.transformer in
    let none = effect_of_own v c.args.self.now.nets of_nets t (c.has_effect.ensures.none c.if-has_effect.false) in
    let zero : ends_of c.point-none.result ≡ zero_ends = ap₂ ends_by c.point-none.ensures.low c.point-none.ensures.high in
    record {
      references = references_in c.args.case.now north east c.args.self.now referred;
      of_case = references_of v north east c.args.self.now of_nets referred;
      to_north = without_effect v north c.args.self.now.unit referred.north_grains t (ends_of c.point-none.result) none zero;
      to_east = without_effect v east c.args.self.now.unit referred.east_grains t (ends_of c.point-none.result) none zero;
    }
