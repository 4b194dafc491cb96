-- The denominator of a transformer's effective current is above 0.
use Rattle.std.proofs.Common.{ℕ, ◌*◌, ◌<◌, length, arith}
use Rattle.std.proofs.lemmas.List.Elements.{All-get_or}
use Rattle.gic_case.specs.Lists.{Lists}
use Rattle.gic_case.specs.Sound.{IsSound, IsSoundTransformer}
use Rattle.gic_fixed.proofs.Divisions.{positive_product}
use Rattle.gic_model.specs.Solution.{Solution}
use Rattle.gic_winding.specs.Weights.{transformer_at, no_transformer}
use Rattle.gic_effective.specs.Weighted.{effective_denominator}

-- in a sound case, and where the solution's denominator is
pub some_denominator : (case : Lists) (t : ℕ) (s : Solution) → IsSound case → t < length case.transformers → 0 < s.denominator → 0 < effective_denominator case t s
some_denominator case t s sound within some =
    let rated : IsSoundTransformer case (transformer_at case t) = All-get_or (IsSoundTransformer case) case.transformers t no_transformer within sound.transformers_sound in
    positive_product (3000000 * (transformer_at case t).high_volts) s.denominator (omega (arith, rated.rated.0)) some
