use Rattle.std.proofs.Common.{◌≡◌, List, map, ap, sym, subst, ◌∙◌, arith}
use Rattle.std.proofs.lemmas.List.{with_items_is}
use Rattle.gic_fixed.specs.declared.interval.Interval.{Interval}
use Rattle.gic_fixed.specs.Ends.{ends_of}
use Rattle.gic_varied.specs.Certified.{in_units}
use Rattle.gic_grounds.specs.NodeEnds.{AreAllWithin}
use Rattle.gic_grounds.proofs.NodeLists.{all_units_within}
use Rattle.gic_grounds.proofs.node_intervals.NodeIntervals.in_units.Goals as goal

pub returns-clause-within : goal.returns-clause-within
returns-clause-within c = λ bound small.
    let inside = c.self.inside.list in
    let is : map ends_of c.round_all.new.list ≡ map (in_units c.args.unit) c.args.self.now =
    c.round_all.ensures ∙ ap (λ l. map (in_units c.args.unit) l) (ap (λ l. map ends_of l) c.as_mut_slice.ensures.value ∙ c.self.view_is) in
    subst (λ (l : List Interval). AreAllWithin bound (map ends_of l)) (sym (with_items_is inside c.round_all.new.list (omega (arith, c.round_all.auto.list, c.as_mut_slice.ensures.len, inside.ok.0))))
    (subst (AreAllWithin bound) (sym is) (all_units_within c.args.unit bound c.args.self.now c.requires small))
