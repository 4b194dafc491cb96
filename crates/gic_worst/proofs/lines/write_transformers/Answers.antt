use Rattle.std.proofs.Common.{rules, ◌≡◌, ℕ, List, [], ◌∷◌, ◌++◌, ◌⊎◌, inl, inr, map, refl, sym, ap, ◌∙◌}
use Rattle.std.specs.Iterator.Adapters.{zip_first, zip_second}
use Rattle.std.specs.Slice.Iter.{iter_rest}
use Rattle.std.proofs.lemmas.Slice.Zip.{Zip-more, either_empty_from_Zip}
use Rattle.gic_text.specs.Lines.{line_text, lines_text}
use Rattle.gic_case.specs.declared.item.Transformer.{Transformer}
use Rattle.gic_report.proofs.Written.{begins, goes_on, stops, ends}
use Rattle.gic_worst.specs.declared.rows.ScreenRow.{ScreenRow}
use Rattle.gic_worst.specs.Rows.{screen_row_of}
use Rattle.gic_worst.specs.ScreenLines.{screened_transformer_line, screened_transformer_lines}
use Rattle.gic_worst.proofs.lines.write_transformers.Goals as goal

-- what is left begins with the next line
next_line : (threshold : ℕ) (ts later : List Transformer) (rows others : List ScreenRow) (t : Transformer) (row : ScreenRow) → (ts ≡ t ∷ later) × (rows ≡ row ∷ others)
    → lines_text (screened_transformer_lines threshold ts (map screen_row_of rows)) ≡ line_text (screened_transformer_line threshold t (screen_row_of row)) ++ lines_text (screened_transformer_lines threshold later (map screen_row_of others))
next_line threshold ts later rows others t row e =
    ap (λ l. lines_text (screened_transformer_lines threshold l (map screen_row_of rows))) e.0
    ∙ ap (λ l. lines_text (screened_transformer_lines threshold (t ∷ later) (map screen_row_of l))) e.1

-- and where no transformer or no row is left, nothing
no_line_left : (threshold : ℕ) (ts : List Transformer) (rows : List ScreenRow) → (ts ≡ []) ⊎ (rows ≡ []) → lines_text (screened_transformer_lines threshold ts (map screen_row_of rows)) ≡ []
no_line_left threshold [] rows e = refl
no_line_left threshold (t ∷ ts) [] e = refl
no_line_left threshold (t ∷ ts) (row ∷ rows) (inl e) = absurd (let f : t ∷ ts ≡ [] = e in cc)
no_line_left threshold (t ∷ ts) (row ∷ rows) (inr e) = absurd (let f : row ∷ rows ≡ [] = e in cc)

pub loop-transformer-init : goal.loop-transformer-init
loop-transformer-init g c =
    let first : iter_rest (zip_first c.into_iter-transformer-iterator.result) ≡ c.args.transformers.now = search rules in
    let second : iter_rest (zip_second c.into_iter-transformer-iterator.result) ≡ c.args.rows.now = search rules in
    let same = ap (λ l. lines_text (screened_transformer_lines c.args.threshold l (map screen_row_of c.args.rows.now))) (sym first)
    ∙ ap (λ l. lines_text (screened_transformer_lines c.args.threshold (iter_rest (zip_first c.into_iter-transformer-iterator.result)) (map screen_row_of l))) (sym second) in
    record { written = begins same }

pub loop-transformer-preserved : goal.loop-transformer-preserved
loop-transformer-preserved g c =
    let more = Zip-more c.loop-transformer.transformer-iterator c.next.new.self c.next.result (c.in-Some.transformer, c.in-Some.row) c.in-Some.is c.next.ensures.steps in
    let next = next_line c.args.threshold _ _ _ _ c.in-Some.transformer.now c.in-Some.row.now more in
    record { written = goes_on c.loop-transformer.invariant.written next c.in_ok-write_transformer.ensures }

pub returns-in_err-write_transformer : goal.returns-in_err-write_transformer
returns-in_err-write_transformer g c =
    let more = Zip-more c.loop-transformer.transformer-iterator c.next.new.self c.next.result (c.in-Some.transformer, c.in-Some.row) c.in-Some.is c.next.ensures.steps in
    let next = next_line c.args.threshold _ _ _ _ c.in-Some.transformer.now c.in-Some.row.now more in
    stops _ c.loop-transformer.invariant.written next c.in_err-write_transformer.ensures c.from_residual.ensures.1

pub returns : goal.returns
returns g c =
    let none = either_empty_from_Zip c.loop-transformer.transformer-iterator c.next.new.self c.next.result c.in-None.is c.next.ensures.steps in
    ends c.loop-transformer.invariant.written (no_line_left c.args.threshold _ _ none)
