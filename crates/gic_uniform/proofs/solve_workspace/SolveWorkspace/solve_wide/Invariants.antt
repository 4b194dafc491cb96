use Rattle.gic_uniform.proofs.solve_workspace.SolveWorkspace.solve_wide.Given as goal

abbrev pub ghosts-solve_uncounted : goal.ghosts-solve_uncounted
ghosts-solve_uncounted a = record { name = a.blank.name; parts = a.blank.parts }
