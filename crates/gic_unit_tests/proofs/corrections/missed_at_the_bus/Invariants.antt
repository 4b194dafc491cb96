use Rattle.gic_unit_tests.proofs.corrections.missed_at_the_bus.Given as goal

abbrev pub ghosts-improved : goal.ghosts-improved
ghosts-improved a = record { name = a.blank.name; parts = a.blank.parts }
