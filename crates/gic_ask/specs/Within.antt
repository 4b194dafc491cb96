-- The ranges of what is asked for.
use Rattle.std.specs.Prelude.{◌<◌, length, ⊤}
use Rattle.gic_criteria.specs.Ranges.{IsWithinCriteria, IsWithinRanges, IsWithinRobust}
use Rattle.gic_inputs.specs.Inputs.{IsStormOf}
use Rattle.gic_words.specs.Accepted.{IsSize}
use Rattle.gic_ask.specs.declared.request.Asked.{Asked}
use Rattle.gic_ask.specs.declared.request.Asked.TheVariants as asked

-- what is asked of a network, with a storm that was read with its case, the size of a made one, and the place of a transformer of the case
abbrev pub IsAskedWithinRanges : Asked → Type 0
IsAskedWithinRanges (asked.Network m a) = IsWithinRanges a.question
IsAskedWithinRanges (asked.Study a) = IsWithinCriteria a.inputs.question × IsStormOf a.inputs
IsAskedWithinRanges (asked.Make r) = IsSize r.size
IsAskedWithinRanges (asked.Series a) = IsWithinCriteria a.inputs.question × (IsStormOf a.inputs × (a.transformer < length a.inputs.case.transformers))
IsAskedWithinRanges (asked.Robust inputs) = IsWithinRobust inputs.question
IsAskedWithinRanges _ = ⊤
