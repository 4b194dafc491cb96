use Rattle.gic_case.specs.Lists.{node_names}
use Rattle.gic_report.proofs.CaseNames.{node_words}
use Rattle.gic_check.proofs.CheckDetermined.{check_determined}
use Rattle.gic_check.proofs.laws.text_determines_live_law.Goals as goal

pub returns : goal.returns
returns c = λ case names live other p q e. check_determined (node_names case) live other (node_words case names) p.count q.count p.few q.few e
