use Rattle.std.proofs.Common.{arith, rules}
use Rattle.gic_course.proofs.StepsStand.{stands_in_epoch}
use Rattle.gic_course.proofs.walking.put_in_force.Goals as goal

pub returns-clause-stands : goal.returns-clause-stands
returns-clause-stands c = stands_in_epoch c.args.inputs.now c.switch_to.new.self c.args.epoch c.requires.epoch
    (search (rules, c.switch_to.ensures.switched.stands)) (omega (arith, c.switch_to.ensures.switched.through))
