-- The words for what elements are.
use Rattle.std.specs.Prelude.{ℕ, List, codes}
use Rattle.gic_model.specs.declared.parts.Role.{Role}
use Rattle.gic_model.specs.declared.parts.Role.TheVariants as role

-- how a report names what an element is
abbrev pub role_word : Role → List ℕ
role_word role.Ground = codes "ground"
role_word role.Line = codes "line"
role_word role.High = codes "high"
role_word role.Low = codes "low"
role_word role.Series = codes "series"
role_word role.Common = codes "common"
role_word role.Third = codes "third"
role_word role.Neutral = codes "neutral"
