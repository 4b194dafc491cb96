use Rattle.std.proofs.Common.{◌≡◌, length, arith, ap}
use Rattle.gic_case.specs.Lists.{neutrals_of}
use Rattle.gic_case.proofs.NeutralNodes.{each_sound, length-neutrals_of}
use Rattle.gic_case.proofs.neutral.neutrals.Goals as goal

pub returns-clause-sound : goal.returns-clause-sound
returns-clause-sound c =
    each_sound c.args.case.now c.in_ok-neutrals.neutrals.items c.network.ensures.sound (rw c.network.ensures.value at c.in_ok-neutrals.ensures)

pub returns-clause-few : goal.returns-clause-few
returns-clause-few c =
    let are : c.in_ok-neutrals.neutrals.items ≡ neutrals_of c.args.case.now = rw c.network.ensures.value at c.in_ok-neutrals.ensures in
    omega (arith, ap length are, length-neutrals_of c.args.case.now, c.network.ensures.sound.few_transformers)
