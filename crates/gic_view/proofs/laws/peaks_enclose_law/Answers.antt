use Rattle.gic_view.proofs.Greatest.{peak_encloses, transformer_peak}
use Rattle.gic_view.proofs.laws.peaks_enclose_law.Goals as goal

pub returns-clause-encloses : goal.returns-clause-encloses
returns-clause-encloses c = peak_encloses

pub returns-clause-transformers : goal.returns-clause-transformers
returns-clause-transformers c = transformer_peak
