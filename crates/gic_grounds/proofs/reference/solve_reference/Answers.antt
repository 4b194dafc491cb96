use Rattle.std.proofs.Common.{List, ap, sym, subst}
use Rattle.gic_enclose.specs.Certain.{AreCertain, AreTight}
use Rattle.gic_enclose.specs.Ends.{potential_ends}
use Rattle.gic_fixed.specs.Ends.{Ends}
use Rattle.gic_model.specs.Voltages.{number_at}
use Rattle.gic_net.specs.Net.{standing}
use Rattle.gic_uniform.specs.declared.solve_workspace.SolveWorkspace.{SolveWorkspace}
use Rattle.gic_uniform.specs.Ready.{IsSolveWorkspaceFor}
use Rattle.gic_grounds.specs.OwnCurrent.{IsOwnCurrent}
use Rattle.gic_grounds.proofs.Solving.{still_solves}
use Rattle.gic_grounds.proofs.reference.solve_reference.Goals as goal

pub returns-clause-solved : goal.returns-clause-solved
returns-clause-solved c =
    let stand = standing c.args.net.now in
    let volts = number_at c.args.volts.now in
    let same = sym c.keep.ensures.same in
    record {
      certain = subst (λ (xs : List Ends). AreCertain stand volts xs) same c.solve.ensures.solved.certain;
      tight = subst (λ (xs : List Ends). AreTight xs) same c.solve.ensures.tight;
      within = c.keep.ensures.small;
      own = λ t inside. subst (λ (xs : List Ends). IsOwnCurrent c.args.case.now stand volts xs t (potential_ends c.fill_own.new.out t)) same
          (c.fill_own.ensures.each t inside);
      own_within = c.fill_own.ensures.within;
    }

pub returns-clause-still : goal.returns-clause-still
returns-clause-still c =
    still_solves _ _ c.args.solving.now c.solve.new.self
    (subst (λ n. IsSolveWorkspaceFor n c.solve.new.self) c.requires.ready.node_count c.solve.ensures.space)
    (ap (λ (w : SolveWorkspace). w.vector) c.solve.ensures.rest)
