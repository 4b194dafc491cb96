use Rattle.std.proofs.Common.{◌≡◌, ◌*◌, ◌<◌, List, length, take, drop, arith, refl, ap, ◌∙◌}
use Rattle.gic_fixed.specs.Ends.{Ends, ends_of}
use Rattle.gic_superpose.specs.declared.pairs.ZonePair.{ZonePair}
use Rattle.gic_superpose.specs.Superposed.{ZoneEnds, superposed}
use Rattle.gic_superpose.specs.Pairs.{row_of, most_superposed}
use Rattle.gic_superpose.specs.Rows.{FlatRows, row_at}
use Rattle.gic_superpose.proofs.Parts.{same_within}
use Rattle.gic_superpose.proofs.Places.{range_row}
use Rattle.gic_superpose.proofs.Small.{row_small}
use Rattle.gic_superpose.proofs.rows.PairRows.superposed.Goals as goal

-- what is superposed, of the row among the pairs
value : (c : goal.After-superpose_row) → ends_of c.superpose_row.result
    ≡ superposed c.args.fields.now (take c.self.inside.zones (drop (c.args.place * c.self.inside.zones) (row_of c.self.inside.pairs.items)))
value c =
    let zones = c.self.inside.zones in
    let from = c.args.place * zones in
    c.superpose_row.ensures
    ∙ ap (λ (row : List ZoneEnds). superposed c.args.fields.now row)
    (range_row c.deref.result.now from _ zones refl ∙ ap (λ (pairs : List ZonePair). take zones (drop from (row_of pairs))) c.deref.ensures.value)

pub returns-clause-value : goal.returns-clause-value
returns-clause-value c = value c ∙ ap (λ (rows : FlatRows). superposed c.args.fields.now (row_at rows c.args.place)) c.self.view_is

pub returns-clause-small : goal.returns-clause-small
returns-clause-small c =
    let rows = c.self.inside in
    let inside : c.args.place < c.self.inside.places = omega (arith, c.requires.place, ap (λ (v : FlatRows). v.places) c.self.view_is) in
    let zones : length c.args.fields.now ≡ c.self.inside.zones = omega (arith, c.requires.fields, ap (λ (v : FlatRows). v.zones) c.self.view_is) in
    same_within most_superposed _ _ _ _ (ap (λ (e : Ends). e.low) (value c)) (ap (λ (e : Ends). e.high) (value c))
    (row_small c.args.fields.now rows.pairs.items rows.places rows.zones c.args.place zones c.self.invariant.few c.within_limit.ensures c.self.invariant.count inside c.self.invariant.small)
