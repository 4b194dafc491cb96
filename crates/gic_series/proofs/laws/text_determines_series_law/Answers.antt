use Rattle.gic_series.proofs.SeriesDetermined.{report_determined}
use Rattle.gic_series.proofs.laws.text_determines_series_law.Goals as goal

pub returns : goal.returns
returns c = report_determined
