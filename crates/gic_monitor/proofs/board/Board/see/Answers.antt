use Rattle.std.proofs.Common.{arith, ◌∷◌, map, ap, ◌∙◌}
use Rattle.gic_monitor.proofs.Walks.{written_back}
use Rattle.gic_monitor.proofs.board.Board.see.Goals as goal

pub returns-clause-texts : goal.returns-clause-texts
returns-clause-texts g c = λ views.
    ap (map (λ m. (goal.Monitor-dyn g (m.vtable, m.value)).outlook m.value views))
    (written_back c.args.self.now.monitors.items c.show_all.new.monitors c.args.self.now.monitors.len (omega (arith, c.args.self.now.monitors.ok.0)) (omega (arith, c.show_all.auto.monitors, c.deref_mut.ensures.len, c.args.self.now.monitors.ok.0)))
    ∙ c.show_all.ensures views
    ∙ ap (map (λ m. (goal.Monitor-dyn g (m.vtable, m.value)).outlook m.value (c.args.view.now ∷ views))) c.deref_mut.ensures.value
