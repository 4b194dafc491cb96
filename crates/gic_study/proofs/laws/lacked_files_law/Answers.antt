use Rattle.gic_study.proofs.Ended.{lacked_files_are_out_of_memory}
use Rattle.gic_study.proofs.laws.lacked_files_law.Goals as goal

pub returns : goal.returns
returns c = lacked_files_are_out_of_memory c.answers_of_files_law.ensures
