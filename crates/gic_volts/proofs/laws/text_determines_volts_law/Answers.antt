use Rattle.std.proofs.Common.{FitsSigned, w64}
use Rattle.std.proofs.lemmas.List.Elements.{recursion_from_All}
use Rattle.gic_report.proofs.CaseNames.{line_names}
use Rattle.gic_volts.proofs.VoltsDetermined.{volts_determined}
use Rattle.gic_volts.proofs.laws.text_determines_volts_law.Goals as goal

pub returns : goal.returns
returns c = λ case names north east xs north' east' ys p q e.
    volts_determined case.lines north east xs north' east' ys (line_names case names) p.count q.count
    p.north_fits p.east_fits (recursion_from_All (FitsSigned w64) xs p.nanovolts_fit)
    q.north_fits q.east_fits (recursion_from_All (FitsSigned w64) ys q.nanovolts_fit) e
