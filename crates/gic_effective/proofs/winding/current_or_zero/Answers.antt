use Rattle.std.proofs.Common.{◌≤◌, arith, ap, ⊎_elim}
use Rattle.gic_model.specs.declared.parts.Element.{Element}
use Rattle.gic_model.specs.Sums.{Placed}
use Rattle.gic_model.specs.Voltages.{number_at}
use Rattle.gic_net.specs.Net.{element_of}
use Rattle.gic_enclose.specs.Ends.{low_at, high_at}
use Rattle.gic_effective.proofs.Widths.{same_width, element_tight}
use Rattle.gic_effective.proofs.winding.current_or_zero.Goals as goal

pub returns-then-stands-clause-tight : goal.returns-then-stands-clause-tight
returns-then-stands-clause-tight c tight =
    let p : Placed = (c.args.element.0, element_of c.args.net.now.network c.args.element.0) in
    let within = c.element-row.ensures.within in
    let times = ap (λ (e : Element). e.times) c.element-row.ensures.value in
    let ohms = ap (λ (e : Element). e.micro_ohm) c.element-row.ensures.value in
    let three : p.1.times ≤ 3 = ⊎_elim (λ one. omega (arith, times, one)) (λ all. omega (arith, times, all)) within.one_or_three in
    let thousand : 1000 ≤ p.1.micro_ohm = omega (arith, ohms, within.least_ohm) in
    same_width c.current_na.result.lo c.current_na.result.hi _ _ 400 c.current_na.ensures.low c.current_na.ensures.high
    (element_tight (number_at c.args.volts.now) (low_at c.args.potentials.now) (high_at c.args.potentials.now) p three thousand tight)
