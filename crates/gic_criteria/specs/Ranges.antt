-- The ranges of what is asked.
use Rattle.std.specs.Prelude.{ℕ, ◌≤◌, unsigned_abs}
use Rattle.gic_base.specs.declared.limits.TheConstants.{MOST_FIELD}
use Rattle.gic_criteria.specs.declared.asked.Criteria.{Criteria}
use Rattle.gic_criteria.specs.declared.asked.Question.{Question}
use Rattle.gic_criteria.specs.declared.asked.RobustCriteria.{RobustCriteria}
use Rattle.gic_criteria.specs.declared.asked.UniformField.{UniformField}

-- each part of the field lies within `MOST_FIELD`, 20000 mV/km
pub record IsWithinField (f : UniformField) : Type 0 where
  pub north : unsigned_abs f.north ≤ MOST_FIELD
  pub east : unsigned_abs f.east ≤ MOST_FIELD

-- the width is from 10 to 10000 mV or mA
pub record IsWidth (width : ℕ) : Type 0 where
  pub least : 10 ≤ width
  pub most : width ≤ 10000

-- the width of criteria is one
abbrev pub IsWithinCriteria : Criteria → Type 0
IsWithinCriteria c = IsWidth c.width

-- the field and the criteria of a question are within theirs
pub record IsWithinRanges (q : Question) : Type 0 where
  pub field : IsWithinField q.field
  pub criteria : IsWithinCriteria q.criteria

-- a tolerance of grounds is from 1 to 90 per cent
pub record IsTolerance (percent : ℕ) : Type 0 where
  pub least : 1 ≤ percent
  pub most : percent ≤ 90

-- the criteria and the tolerance of a report on all networks within it are within theirs
pub record IsWithinRobust (c : RobustCriteria) : Type 0 where
  pub criteria : IsWithinCriteria c.criteria
  pub tolerance : IsTolerance c.tolerance
