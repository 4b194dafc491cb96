use Rattle.std.proofs.Common.{refl}
use Rattle.csv.proofs.OnLiterals.{csv_on_literals}
use Rattle.gic_records.proofs.laws.odd_texts_law.Goals as goal

pub returns-clause-no_bytes : goal.returns-clause-no_bytes
unfolding csv_on_literals
returns-clause-no_bytes c = refl

pub returns-clause-blank_lines : goal.returns-clause-blank_lines
unfolding csv_on_literals
returns-clause-blank_lines c = refl

pub returns-clause-last_line_without_its_end : goal.returns-clause-last_line_without_its_end
unfolding csv_on_literals
returns-clause-last_line_without_its_end c = refl

pub returns-clause-carriage_return_alone : goal.returns-clause-carriage_return_alone
unfolding csv_on_literals
returns-clause-carriage_return_alone c = refl

pub returns-clause-quoted_field : goal.returns-clause-quoted_field
unfolding csv_on_literals
returns-clause-quoted_field c = refl

pub returns-clause-spaces_stay : goal.returns-clause-spaces_stay
unfolding csv_on_literals
returns-clause-spaces_stay c = refl

pub returns-clause-empty_fields : goal.returns-clause-empty_fields
unfolding csv_on_literals
returns-clause-empty_fields c = refl

pub returns-clause-mark_at_the_start : goal.returns-clause-mark_at_the_start
unfolding csv_on_literals
returns-clause-mark_at_the_start c = refl
