use Rattle.std.proofs.Common.{rules, ◌≡◌, ℕ, Option, List, [], ◌∷◌, ◌++◌, ◌⊎◌, inl, inr, map, refl, sym, ap, ◌∙◌}
use Rattle.std.specs.Iterator.Adapters.{zip_first, zip_second}
use Rattle.std.specs.Slice.Iter.{iter_rest}
use Rattle.std.proofs.lemmas.Slice.Zip.{Zip-more, either_empty_from_Zip}
use Rattle.gic_text.specs.Lines.{line_text, lines_text}
use Rattle.gic_case.specs.declared.item.Transformer.{Transformer}
use Rattle.gic_fixed.specs.declared.interval.Interval.{Interval}
use Rattle.gic_view.specs.Kept.{optional_ends}
use Rattle.gic_report.proofs.Written.{begins, goes_on, stops, ends}
use Rattle.gic_outage.specs.OutageText.{greatest_worst_line, greatest_worst_lines}
use Rattle.gic_outage.proofs.text.write_transformers.Goals as goal

-- what is left begins with the next line
next_line : (threshold : ℕ) (ts later : List Transformer) (cells others : List (Option Interval)) (t : Transformer) (cell : Option Interval) → (ts ≡ t ∷ later) × (cells ≡ cell ∷ others)
    → lines_text (greatest_worst_lines threshold ts (map optional_ends cells)) ≡ line_text (greatest_worst_line threshold t (optional_ends cell)) ++ lines_text (greatest_worst_lines threshold later (map optional_ends others))
next_line threshold ts later cells others t cell e =
    ap (λ l. lines_text (greatest_worst_lines threshold l (map optional_ends cells))) e.0
    ∙ ap (λ l. lines_text (greatest_worst_lines threshold (t ∷ later) (map optional_ends l))) e.1

-- and where no transformer or no interval is left, nothing
no_line_left : (threshold : ℕ) (ts : List Transformer) (cells : List (Option Interval)) → (ts ≡ []) ⊎ (cells ≡ []) → lines_text (greatest_worst_lines threshold ts (map optional_ends cells)) ≡ []
no_line_left threshold [] cells e = refl
no_line_left threshold (t ∷ ts) [] e = refl
no_line_left threshold (t ∷ ts) (cell ∷ cells) (inl e) = absurd (let f : t ∷ ts ≡ [] = e in cc)
no_line_left threshold (t ∷ ts) (cell ∷ cells) (inr e) = absurd (let f : cell ∷ cells ≡ [] = e in cc)

pub loop-transformer-init : goal.loop-transformer-init
loop-transformer-init g c =
    let first : iter_rest (zip_first c.into_iter-transformer-iterator.result) ≡ c.args.case.now.transformers = search rules in
    let second : iter_rest (zip_second c.into_iter-transformer-iterator.result) ≡ c.args.greatest.now = search rules in
    let same = ap (λ l. lines_text (greatest_worst_lines c.args.threshold l (map optional_ends c.args.greatest.now))) (sym first)
    ∙ ap (λ l. lines_text (greatest_worst_lines c.args.threshold (iter_rest (zip_first c.into_iter-transformer-iterator.result)) (map optional_ends l))) (sym second) in
    record { written = begins same }

pub loop-transformer-preserved : goal.loop-transformer-preserved
loop-transformer-preserved g c =
    let more = Zip-more c.loop-transformer.transformer-iterator c.next.new.self c.next.result (c.in-Some.transformer, c.in-Some.cell) c.in-Some.is c.next.ensures.steps in
    let next = next_line c.args.threshold _ _ _ _ c.in-Some.transformer.now c.in-Some.cell.now more in
    record { written = goes_on c.loop-transformer.invariant.written next c.in_ok-write_greatest.ensures }

pub returns-in_err-write_greatest : goal.returns-in_err-write_greatest
returns-in_err-write_greatest g c =
    let more = Zip-more c.loop-transformer.transformer-iterator c.next.new.self c.next.result (c.in-Some.transformer, c.in-Some.cell) c.in-Some.is c.next.ensures.steps in
    let next = next_line c.args.threshold _ _ _ _ c.in-Some.transformer.now c.in-Some.cell.now more in
    stops _ c.loop-transformer.invariant.written next c.in_err-write_greatest.ensures c.from_residual.ensures.1

pub returns : goal.returns
returns g c =
    let none = either_empty_from_Zip c.loop-transformer.transformer-iterator c.next.new.self c.next.result c.in-None.is c.next.ensures.steps in
    ends c.loop-transformer.invariant.written (no_line_left c.args.threshold _ _ none)
