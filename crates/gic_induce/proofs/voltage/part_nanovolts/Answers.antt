use Rattle.std.proofs.Common.{◌≡◌, rules, w64, to_z, of_z, arith}
use Rattle.gic_induce.specs.Voltage.{part_nanovolts}
use Rattle.gic_induce.proofs.Parts.{part_few}
use Rattle.gic_induce.proofs.voltage.part_nanovolts.Goals as goal

pub returns-clause-small : goal.returns-clause-small
returns-clause-small c =
    let part = c.args.part.now in
    let zone = c.args.zone.now in
    let value : to_z w64 (of_z w64 c.scaled.result) ≡ part_nanovolts part zone c.args.north c.args.east = search rules in
    rw value (part_few part zone c.args.north c.args.east c.requires.north c.requires.east (omega (arith, c.factor.ensures.value, c.factor.ensures.most)))
