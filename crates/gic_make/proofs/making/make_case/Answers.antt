use Rattle.std.proofs.Common.{◌≡◌, ◌∙◌, ap, [], ◌∷◌}
use Rattle.gic_make.specs.Generator.{states_after}
use Rattle.gic_make.specs.MadeCase.{first_draw, made_zone}
use Rattle.gic_make.proofs.Gathered.{gathered, gathered_sound}
use Rattle.gic_make.proofs.making.make_case.Goals as goal

pub from_parts-requires : goal.from_parts-requires
from_parts-requires c =
    let are : c.as_slice-states.result.now ≡ states_after c.args.seed (first_draw c.args.size) = c.as_slice-states.ensures.value ∙ c.in_ok-states.ensures in
    let zone : c.in_ok-zones.zones.items ≡ made_zone ∷ [] = c.in_ok-zones.ensures.items ∙ ap (λ z. z ∷ []) c.zone.ensures in
    gathered_sound c.args.seed c.args.size _ _ _ _ _ _ are zone c.in_ok-substations.ensures c.in_ok-buses.ensures c.in_ok-lines.ensures c.in_ok-transformers.ensures c.requires.least c.requires.most

pub returns : goal.returns
returns c =
    let are : c.as_slice-states.result.now ≡ states_after c.args.seed (first_draw c.args.size) = c.as_slice-states.ensures.value ∙ c.in_ok-states.ensures in
    let zone : c.in_ok-zones.zones.items ≡ made_zone ∷ [] = c.in_ok-zones.ensures.items ∙ ap (λ z. z ∷ []) c.zone.ensures in
    c.from_parts.ensures ∙ gathered c.args.seed c.args.size _ _ _ _ _ _ are zone c.in_ok-substations.ensures c.in_ok-buses.ensures c.in_ok-lines.ensures c.in_ok-transformers.ensures
