use Rattle.std.proofs.Common.{rules, ◌≡◌, ◌∙◌, ◌∷◌, map, sym, ap, subst, inl, inr}
use Rattle.std.specs.Iterator.{YieldsFirst}
use Rattle.std.specs.Iterator.Adapters.{zip_first, zip_second, zip_steps}
use Rattle.std.specs.Slice.Iter.{iter_rest, iter_steps}
use Rattle.std.proofs.lemmas.List.{nil_from_length}
use Rattle.gic_text.specs.Lines.{lines_text}
use Rattle.gic_case.specs.Lists.{node_names}
use Rattle.gic_case.specs.NodeNames.{names_left}
use Rattle.gic_view.specs.Kept.{optional_ends}
use Rattle.gic_recheck.specs.RecheckText.{potential_lines}
use Rattle.gic_recheck.proofs.PotentialLines.{next_potential, no_potential_left}
use Rattle.gic_report.proofs.Written.{begins, goes_on, stops, ends}
use Rattle.gic_recheck.proofs.text.write_potentials.Goals as goal

pub loop-name-init : goal.loop-name-init
loop-name-init g c =
    let it = c.into_iter-name-iterator.result in
    let first : names_left (zip_first it) ≡ node_names c.args.case.now = search rules in
    let second : iter_rest (zip_second it) ≡ c.args.intervals.now = search rules in
    let same = ap (λ n. lines_text (potential_lines n (map optional_ends c.args.intervals.now))) (sym first)
    ∙ ap (λ l. lines_text (potential_lines (names_left (zip_first it)) (map optional_ends l))) (sym second) in
    record { written = begins same }

pub loop-name-preserved : goal.loop-name-preserved
loop-name-preserved g c =
    let it = c.loop-name.name-iterator in
    let later = c.next.new.self in
    let more : (names_left (zip_first it) ≡ c.in-Some.name ∷ names_left (zip_first later)) × (iter_rest (zip_second it) ≡ c.in-Some.interval.now ∷ iter_rest (zip_second later))
    = subst (λ o. zip_steps (YieldsFirst names_left) iter_steps it o later) c.in-Some.is c.next.ensures.steps in
    let next = next_potential _ _ _ _ c.in-Some.name (optional_ends c.in-Some.interval.now) more.0 (ap (map optional_ends) more.1) in
    record { written = goes_on c.loop-name.invariant.written next c.in_ok-write_potential.ensures }

pub returns-in_err-write_potential : goal.returns-in_err-write_potential
returns-in_err-write_potential g c =
    let it = c.loop-name.name-iterator in
    let later = c.next.new.self in
    let more : (names_left (zip_first it) ≡ c.in-Some.name ∷ names_left (zip_first later)) × (iter_rest (zip_second it) ≡ c.in-Some.interval.now ∷ iter_rest (zip_second later))
    = subst (λ o. zip_steps (YieldsFirst names_left) iter_steps it o later) c.in-Some.is c.next.ensures.steps in
    let next = next_potential _ _ _ _ c.in-Some.name (optional_ends c.in-Some.interval.now) more.0 (ap (map optional_ends) more.1) in
    stops _ c.loop-name.invariant.written next c.in_err-write_potential.ensures c.from_residual.ensures.1

pub returns : goal.returns
returns g c =
    let it = c.loop-name.name-iterator in
    let ended = subst (λ o. zip_steps (YieldsFirst names_left) iter_steps it o c.next.new.self) c.in-None.is c.next.ensures.steps in
    ends c.loop-name.invariant.written (no_potential_left _ _ (elim ended [
      | inl h ↦ inl h.1.0
      | inr h ↦ inr (ap (map optional_ends) (nil_from_length (iter_rest (zip_second it)) h.1.0))
    ]))
