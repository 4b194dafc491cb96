use Rattle.std.proofs.Common.{◌<◌, arith, ap, ◌∙◌}
use Rattle.gic_superpose.specs.Superposed.{zone_at}
use Rattle.gic_superpose.specs.Rows.{FlatRows, row_at}
use Rattle.gic_superpose.proofs.Places.{zone_inside, zone_written, zone_kept}
use Rattle.gic_superpose.proofs.rows.PairRows.set.Goals as goal

pub returns-clause-set : goal.returns-clause-set
returns-clause-set c =
    let rows = c.self.inside in
    let inside : c.args.place < c.self.inside.places = omega (arith, c.requires.place, ap (λ (v : FlatRows). v.places) c.self.view_is) in
    let less : c.args.zone < c.self.inside.zones = omega (arith, c.requires.zone, ap (λ (v : FlatRows). v.zones) c.self.view_is) in
    zone_written rows.pairs.items rows.zones c.args.place c.args.zone c.args.pair less
    (zone_inside c.args.place rows.zones c.args.zone rows.places _ inside less c.self.invariant.count)

pub returns-clause-others : goal.returns-clause-others
returns-clause-others c p z below other =
    let rows = c.self.inside in
    let less : c.args.zone < c.self.inside.zones = omega (arith, c.requires.zone, ap (λ (v : FlatRows). v.zones) c.self.view_is) in
    let under : z < c.self.inside.zones = omega (arith, below, ap (λ (v : FlatRows). v.zones) c.self.view_is) in
    zone_kept rows.pairs.items rows.zones c.args.place c.args.zone c.args.pair p z less under other
    ∙ ap (λ (v : FlatRows). zone_at (row_at v p) z) c.self.view_is
