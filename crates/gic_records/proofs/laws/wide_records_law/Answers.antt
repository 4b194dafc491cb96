use Rattle.std.proofs.Common.{refl}
use Rattle.csv.proofs.OnLiterals.{csv_on_literals}
use Rattle.gic_records.proofs.laws.wide_records_law.Goals as goal

pub returns-clause-four_fields : goal.returns-clause-four_fields
unfolding csv_on_literals
returns-clause-four_fields c = refl

pub returns-clause-five_fields : goal.returns-clause-five_fields
unfolding csv_on_literals
returns-clause-five_fields c = refl

pub returns-clause-more_fields : goal.returns-clause-more_fields
unfolding csv_on_literals
returns-clause-more_fields c = refl

pub returns-clause-commas_in_quotes : goal.returns-clause-commas_in_quotes
unfolding csv_on_literals
returns-clause-commas_in_quotes c = refl
