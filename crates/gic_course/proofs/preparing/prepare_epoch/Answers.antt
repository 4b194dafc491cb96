use Rattle.gic_course.proofs.preparing.prepare_epoch.Goals as goal

pub find_vector-requires-clause-within : goal.find_vector-requires-clause-within
find_vector-requires-clause-within c = c.requires.solvable.within
