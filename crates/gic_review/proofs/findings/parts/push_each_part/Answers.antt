use Rattle.std.proofs.Common.{rules, ◌≡◌, ◌∙◌, ◌++◌, [], ◌∷◌, ap, subst}
use Rattle.std.specs.Iterator.{YieldsFirst}
use Rattle.std.specs.Iterator.Adapters.{zip_first, zip_second, zip_steps}
use Rattle.std.specs.Slice.Iter.{iter_rest, iter_steps}
use Rattle.std.proofs.lemmas.List.{nil_from_length}
use Rattle.gic_case.specs.Lists.{node_names}
use Rattle.gic_case.specs.NodeNames.{names_left}
use Rattle.gic_review.specs.Parts.{parts_told}
use Rattle.gic_review.proofs.PartsLeft.{either_ended, part_pushed, parts_ended}
use Rattle.gic_review.proofs.findings.parts.push_each_part.Goals as goal

pub loop-name-init : goal.loop-name-init
loop-name-init c =
    let it = c.into_iter-name-iterator.result in
    let first : names_left (zip_first it) ≡ node_names c.args.case.now = search rules in
    let second : iter_rest (zip_second it) ≡ c.args.sizes.now = search rules in
    ap (λ n. c.args.findings.now.items ++ parts_told n (iter_rest (zip_second it))) first ∙ ap (λ s. c.args.findings.now.items ++ parts_told (node_names c.args.case.now) s) second

pub loop-name-preserved : goal.loop-name-preserved
loop-name-preserved c =
    let it = c.loop-name.name-iterator in
    let later = c.next.new.self in
    let more : (names_left (zip_first it) ≡ c.in-Some.name ∷ names_left (zip_first later)) × (iter_rest (zip_second it) ≡ c.in-Some.size.now ∷ iter_rest (zip_second later))
    = subst (λ o. zip_steps (YieldsFirst names_left) iter_steps it o later) c.in-Some.is c.next.ensures.steps in
    part_pushed _ _ _ _ c.in-Some.name c.in-Some.size.now _ _ _ more c.in_ok-push_part.ensures c.loop-name.invariant

pub returns : goal.returns
returns c =
    let it = c.loop-name.name-iterator in
    let ended = subst (λ o. zip_steps (YieldsFirst names_left) iter_steps it o c.next.new.self) c.in-None.is c.next.ensures.steps in
    let none = either_ended (names_left (zip_first it) ≡ []) (iter_rest (zip_second it) ≡ []) (λ s h. h.0) (λ t h. nil_from_length (iter_rest (zip_second it)) h.0) ended in
    parts_ended _ _ _ _ none c.loop-name.invariant
