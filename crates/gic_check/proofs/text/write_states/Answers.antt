use Rattle.std.proofs.Common.{rules, ◌≡◌, ◌∙◌, [], ◌∷◌, sym, ap, subst}
use Rattle.std.specs.Iterator.{YieldsFirst}
use Rattle.std.specs.Iterator.Adapters.{zip_first, zip_second, zip_steps}
use Rattle.std.specs.Slice.Iter.{iter_rest, iter_steps}
use Rattle.std.proofs.lemmas.List.{nil_from_length}
use Rattle.gic_text.specs.Lines.{lines_text}
use Rattle.gic_case.specs.Lists.{node_names}
use Rattle.gic_check.specs.CheckText.{state_lines}
use Rattle.gic_case.specs.NodeNames.{names_left}
use Rattle.gic_check.proofs.StateLines.{either_ended, next_state, no_state_left}
use Rattle.gic_report.proofs.Written.{begins, goes_on, stops, ends}
use Rattle.gic_check.proofs.text.write_states.Goals as goal

pub loop-name-init : goal.loop-name-init
loop-name-init g c =
    let it = c.into_iter-name-iterator.result in
    let first : names_left (zip_first it) ≡ node_names c.args.case.now = search rules in
    let second : iter_rest (zip_second it) ≡ c.args.live.now = search rules in
    let same = ap (λ n. lines_text (state_lines n c.args.live.now)) (sym first)
    ∙ ap (λ l. lines_text (state_lines (names_left (zip_first it)) l)) (sym second) in
    record { written = begins same }

pub loop-name-preserved : goal.loop-name-preserved
loop-name-preserved g c =
    let it = c.loop-name.name-iterator in
    let later = c.next.new.self in
    let more : (names_left (zip_first it) ≡ c.in-Some.name ∷ names_left (zip_first later)) × (iter_rest (zip_second it) ≡ c.in-Some.is_live.now ∷ iter_rest (zip_second later))
    = subst (λ o. zip_steps (YieldsFirst names_left) iter_steps it o later) c.in-Some.is c.next.ensures.steps in
    let next = next_state _ _ _ _ c.in-Some.name c.in-Some.is_live.now more in
    record { written = goes_on c.loop-name.invariant.written next c.in_ok-write_state.ensures }

pub returns-in_err-write_state : goal.returns-in_err-write_state
returns-in_err-write_state g c =
    let it = c.loop-name.name-iterator in
    let later = c.next.new.self in
    let more : (names_left (zip_first it) ≡ c.in-Some.name ∷ names_left (zip_first later)) × (iter_rest (zip_second it) ≡ c.in-Some.is_live.now ∷ iter_rest (zip_second later))
    = subst (λ o. zip_steps (YieldsFirst names_left) iter_steps it o later) c.in-Some.is c.next.ensures.steps in
    let next = next_state _ _ _ _ c.in-Some.name c.in-Some.is_live.now more in
    stops _ c.loop-name.invariant.written next c.in_err-write_state.ensures c.from_residual.ensures.1

pub returns : goal.returns
returns g c =
    let it = c.loop-name.name-iterator in
    let ended = subst (λ o. zip_steps (YieldsFirst names_left) iter_steps it o c.next.new.self) c.in-None.is c.next.ensures.steps in
    let none = either_ended (names_left (zip_first it) ≡ []) (iter_rest (zip_second it) ≡ []) (λ s h. h.0) (λ t h. nil_from_length (iter_rest (zip_second it)) h.0) ended in
    ends c.loop-name.invariant.written (no_state_left _ _ none)
