use Rattle.gic_enclose.proofs.Bounds.{driven_below, case_volts_drive}
use Rattle.gic_enclose.proofs.RoughSolutions.{solved_volts_drive}
use Rattle.gic_enclose.proofs.laws.drive_law.Goals as goal

pub returns : goal.returns
returns c = record { of_case = case_volts_drive; solved = solved_volts_drive; below = driven_below }
