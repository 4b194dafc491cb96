use Rattle.gic_course.proofs.preparing.settle_epoch.Given as goal

abbrev pub ghosts-prepare_uncounted : goal.ghosts-prepare_uncounted
ghosts-prepare_uncounted a = record { name = a.blank.name; parts = a.blank.parts }
