use Rattle.std.proofs.Common.{◌≡◌, ◌∙◌, take, ap, sym, subst, refl, rules}
use Rattle.gic_net.specs.Net.{NetView, net_after}
use Rattle.gic_course.specs.Switched.{closed_after}
use Rattle.gic_course.proofs.ItemsStand.{ItemsStand, go_back_items, back_network}
use Rattle.gic_course.proofs.switched.SwitchedNet.go_back.Goals as goal

pub returns : goal.returns
returns c =
    let rows = c.args.rows.now in
    let net = c.args.self.now.net in
    let switched : c.switch_all.new.net ≡ net_after (closed_after net rows) (take c.args.through rows) = search (rules, c.switch_all.ensures, c.close_all.ensures) in
    record {
      stands = record {
        within = c.requires.within;
        items = subst (ItemsStand rows c.args.through) (sym switched) (go_back_items net rows c.args.self.now.through c.args.through c.requires.stands.items);
      };
      through = refl;
      network = ap (λ (n : NetView). n.network) switched ∙ back_network net rows c.args.through;
    }
