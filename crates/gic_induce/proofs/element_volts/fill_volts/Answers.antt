use Rattle.std.proofs.Common.{◌≡◌, ◌≤◌, length, arith, pos}
use Rattle.std.proofs.lemmas.List.{ext_get_or, length-map}
use Rattle.gic_induce.specs.LineVolts.{volts_of, volts_of_item}
use Rattle.gic_induce.proofs.element_volts.fill_volts.Goals as goal

pub returns : goal.returns
returns c =
    let volts = volts_of c.args.case.now c.args.fields.now c.args.elements.now in
    let many : length volts ≡ length c.args.elements.now = length-map c.args.elements.now (λ e. volts_of_item c.args.case.now c.args.fields.now e.item) in
    let all : length c.args.elements.now ≤ c.loop-place.place = omega arith in
    ext_get_or (pos 0) c.loop-place.out volts (omega arith) (λ k within. c.loop-place.invariant.filled k (omega arith))
