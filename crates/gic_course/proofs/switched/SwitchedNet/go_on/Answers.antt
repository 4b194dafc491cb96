use Rattle.std.proofs.Common.{◌≡◌, ◌-◌, ◌∙◌, take, drop, ap, sym, subst, refl, rules}
use Rattle.gic_net.specs.Net.{NetView, net_after}
use Rattle.gic_net.proofs.Already.{all_already}
use Rattle.gic_net.proofs.Runs.{network_stays}
use Rattle.gic_course.specs.Switched.{change}
use Rattle.gic_course.proofs.ItemsStand.{ItemsStand, go_on_items}
use Rattle.gic_course.proofs.switched.SwitchedNet.go_on.Goals as goal

pub returns-clause-switched : goal.returns-clause-switched
returns-clause-switched c =
    let rows = c.args.rows.now in
    let net = c.args.self.now.net in
    let from = c.args.self.now.through in
    let part = take (c.args.through - from) (drop from rows) in
    let switched : c.switch_all.new.net ≡ net_after net part = search (rules, c.switch_all.ensures) in
    record {
      stands = record {
        within = c.requires.within;
        items = subst (ItemsStand rows c.args.through) (sym switched) (go_on_items net rows from c.args.through c.requires.more c.requires.stands.items);
      };
      through = refl;
      network = ap (λ (n : NetView). n.network) switched ∙ network_stays net part;
    }

pub returns-clause-same : goal.returns-clause-same
returns-clause-same c = λ kept.
    let net = c.args.self.now.net in
    let part = take (c.args.through - c.args.self.now.through) (drop c.args.self.now.through c.args.rows.now) in
    let switched : c.switch_all.new.net ≡ net_after net part = search (rules, c.switch_all.ensures) in
    let changed : c.change-changed.result ≡ change net part = search (rules, c.change-changed.ensures) in
    switched ∙ all_already net part (sym changed ∙ kept)
