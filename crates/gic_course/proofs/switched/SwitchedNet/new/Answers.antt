use Rattle.std.proofs.Common.{sym, subst, arith}
use Rattle.gic_course.proofs.ItemsStand.{ItemsStand, all_stand}
use Rattle.gic_course.proofs.switched.SwitchedNet.new.Goals as goal

pub returns-clause-stands : goal.returns-clause-stands
returns-clause-stands c = λ rows. record {
  within = omega arith;
  items = subst (ItemsStand rows 0) (sym c.in_ok-net.ensures) (all_stand c.args.elements.now rows);
}
