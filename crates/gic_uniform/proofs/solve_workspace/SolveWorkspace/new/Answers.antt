use Rattle.std.proofs.Common.{ap}
use Rattle.gic_net.specs.Scratch.{ScratchView}
use Rattle.gic_stand.proofs.Repeated.{repeated_length}
use Rattle.gic_uniform.proofs.solve_workspace.SolveWorkspace.new.Goals as goal

pub returns : goal.returns
returns c = record {
  scratch = ap (λ (s : ScratchView). s.nodes) c.in_ok-scratch.ensures;
  vector = repeated_length _ _ _ c.in_ok-vector.ensures;
  start = c.in_ok-start.ensures;
  solver = repeated_length _ _ _ c.in_ok-solver.ensures;
  potentials = repeated_length _ _ _ c.in_ok-potentials.ensures;
}
