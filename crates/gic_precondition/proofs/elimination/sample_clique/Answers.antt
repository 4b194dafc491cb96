use Rattle.gic_precondition.proofs.elimination.sample_clique.Goals as goal

pub tie-requires-clause-other : goal.tie-requires-clause-other
tie-requires-clause-other c = rw c.loop-next.invariant (c.in-Some.ensures c.args.graph.now c.requires)
