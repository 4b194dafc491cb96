use Rattle.std.proofs.Common.{arith, map, ap, ◌∙◌}
use Rattle.std.proofs.lemmas.Result.{on_ok_weaker}
use Rattle.gic_monitor.proofs.Walks.{written_back}
use Rattle.gic_monitor.proofs.board.Board.begin.Goals as goal

pub returns-clause-texts : goal.returns-clause-texts
returns-clause-texts g c = on_ok_weaker c.begin_all.result (λ e views.
    ap (map (λ m. (goal.Monitor-dyn g (m.vtable, m.value)).outlook m.value views))
    (written_back c.args.self.now.monitors.items c.begin_all.new.monitors c.args.self.now.monitors.len (omega (arith, c.args.self.now.monitors.ok.0)) (omega (arith, c.begin_all.auto.monitors, c.deref_mut.ensures.len, c.args.self.now.monitors.ok.0)))
    ∙ e views
    ∙ ap (map (λ m. (goal.Monitor-dyn g (m.vtable, m.value)).plan m.value c.args.roster.now views)) c.deref_mut.ensures.value) c.begin_all.ensures
