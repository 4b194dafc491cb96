use Rattle.std.proofs.Common.{◌≡◌, ◌∙◌, ap, ap₂}
use Rattle.gic_effective.proofs.Weighings.{ends_by}
use Rattle.gic_enclose.specs.Ends.{potential_ends}
use Rattle.gic_fixed.specs.Ends.{Ends, ends_of}
use Rattle.gic_varied.specs.Certified.{certified_enclosure}
use Rattle.gic_model.specs.Standing.{stands_after}
use Rattle.gic_winding.specs.ElementList.{elements_of}
use Rattle.gic_grounds.specs.Corner.{is_most_at}
use Rattle.gic_grounds.specs.Tolerated.{own_in, ranges_in}
use Rattle.gic_grounds.specs.VariedCurrent.{cut_current, milli_cut}
use Rattle.gic_grounds.specs.Varying.{intervals_of}
use Rattle.gic_grounds.proofs.current.varied_current.Goals as goal

pub returns-clause-enclosure : goal.returns-clause-enclosure
returns-clause-enclosure c v units of_nets same =
    let own : ends_of c.get-own.result ≡ potential_ends c.args.reference.now.own c.args.transformer = ap₂ ends_by c.get-own.ensures.low c.get-own.ensures.high in
    let nano = c.enclosure-nano.ensures.enclosure (elements_of v.case) (stands_after v.rows) (ranges_in v) units of_nets.extremes same
    ∙ ap (λ (o : Ends). certified_enclosure (own_in v) (ranges_in v) (is_most_at c.args.corner.now) units (intervals_of c.args.adjoint.now c.args.reference.now.potentials o)) own in
    let low = c.cut_both.ensures.low ∙ ap cut_current c.milli.ensures.low in
    let high = c.cut_both.ensures.high ∙ ap cut_current c.milli.ensures.high in
    ap₂ ends_by low high ∙ ap milli_cut nano
