use Rattle.std.proofs.Common.{◌≡◌, ◌<◌, pos, arith, rules, ap, ◌∙◌}
use Rattle.std.specs.List.{Contains}
use Rattle.gic_fixed.specs.Rounding.{floor_div, ceil_div}
use Rattle.gic_model.specs.declared.parts.Element.{Element}
use Rattle.gic_model.specs.Sums.{Placed}
use Rattle.gic_model.specs.Voltages.{number_at}
use Rattle.gic_net.specs.Net.{standing, element_of}
use Rattle.gic_enclose.specs.Ends.{low_at, high_at}
use Rattle.gic_effective.specs.Ohm.{least_nano, most_nano}
use Rattle.gic_effective.proofs.Currents.{Encloses-same}
use Rattle.gic_effective.proofs.Held.{element_holds, element_narrow}
use Rattle.gic_effective.proofs.Widths.{same_width}
use Rattle.gic_effective.proofs.current.current_na.Goals as goal

-- the element and its place are among the standing ones
there : (c : goal.After-ohms_law) → Contains (standing c.args.net.now) (c.args.element.0, element_of c.args.net.now.network c.args.element.0)
there c = c.stands-stands.ensures.listed (c.stands-stands.ensures.place ∙ c.requires.stands)

some : (c : goal.After-ohms_law) → 0 < (element_of c.args.net.now.network c.args.element.0).micro_ohm
some c =
    let same = ap (λ (e : Element). e.micro_ohm) c.element-row.ensures.value in
    omega (arith, same, c.element-row.ensures.within.least_ohm)

low : (c : goal.After-ohms_law) → c.ohms_law.result.lo ≡ least_nano (number_at c.args.volts.now) (low_at c.args.potentials.now) (high_at c.args.potentials.now) (c.args.element.0, element_of c.args.net.now.network c.args.element.0)
low c = search rules

high : (c : goal.After-ohms_law) → c.ohms_law.result.hi ≡ most_nano (number_at c.args.volts.now) (low_at c.args.potentials.now) (high_at c.args.potentials.now) (c.args.element.0, element_of c.args.net.now.network c.args.element.0)
high c = search rules

pub returns-clause-holds : goal.returns-clause-holds
returns-clause-holds c s solves holds =
    let p : Placed = (c.args.element.0, element_of c.args.net.now.network c.args.element.0) in
    Encloses-same c.ohms_law.result.lo c.ohms_law.result.hi _ _ (s.current p.0) s.denominator (low c) (high c)
    (element_holds (standing c.args.net.now) c.args.potentials.now s p (there c) holds (number_at c.args.volts.now) (some c) solves)

pub returns-clause-narrow : goal.returns-clause-narrow
returns-clause-narrow c width sharp =
    let p : Placed = (c.args.element.0, element_of c.args.net.now.network c.args.element.0) in
    same_width (floor_div c.ohms_law.result.lo (pos 1000000)) (ceil_div c.ohms_law.result.hi (pos 1000000)) _ _ width
    (ap (λ z. floor_div z (pos 1000000)) (low c)) (ap (λ z. ceil_div z (pos 1000000)) (high c))
    (element_narrow (standing c.args.net.now) (number_at c.args.volts.now) (low_at c.args.potentials.now) (high_at c.args.potentials.now) width p (there c) (some c) sharp)
