use Rattle.std.proofs.Common.{rules, ◌≡◌, ℤ, FitsSigned, w64, to_z, of_z, List, [], ◌∷◌, ◌++◌, ◌⊎◌, inl, inr, refl, sym, ap, ◌∙◌}
use Rattle.std.specs.Iterator.Adapters.{zip_first, zip_second}
use Rattle.std.specs.Slice.Iter.{iter_rest}
use Rattle.std.proofs.lemmas.Int.{to_z-of_z}
use Rattle.std.proofs.lemmas.Slice.Zip.{Zip-more, either_empty_from_Zip}
use Rattle.gic_text.specs.Lines.{line_text, lines_text}
use Rattle.gic_case.specs.declared.item.Line.{Line}
use Rattle.gic_volts.specs.VoltsText.{volts_line, volts_lines}
use Rattle.gic_report.proofs.Written.{begins, goes_on, stops, ends}
use Rattle.gic_volts.proofs.text.write_volts_lines.Goals as goal

-- what is left begins with the next line; the number is passed by its bits
next_line : (lines later : List Line) (numbers others : List ℤ) (line : Line) (number : ℤ) → (lines ≡ line ∷ later) × (numbers ≡ number ∷ others) → FitsSigned w64 number →
    lines_text (volts_lines lines numbers) ≡ line_text (volts_line line.name (to_z w64 (of_z w64 number))) ++ lines_text (volts_lines later others)
next_line lines later numbers others line number e fits =
    ap (λ l. lines_text (volts_lines l numbers)) e.0
    ∙ ap (λ n. lines_text (volts_lines (line ∷ later) n)) (e.1 ∙ ap (λ n. n ∷ others) (sym (to_z-of_z w64 number fits)))

-- and where no line or no number is left, nothing
no_line_left : (lines : List Line) (numbers : List ℤ) → (lines ≡ []) ⊎ (numbers ≡ []) → lines_text (volts_lines lines numbers) ≡ []
no_line_left [] numbers e = refl
no_line_left (line ∷ lines) [] e = refl
no_line_left (line ∷ lines) (number ∷ numbers) (inl e) = absurd (let f : line ∷ lines ≡ [] = e in cc)
no_line_left (line ∷ lines) (number ∷ numbers) (inr e) = absurd (let f : number ∷ numbers ≡ [] = e in cc)

pub loop-item-init : goal.loop-item-init
loop-item-init g c =
    let first : iter_rest (zip_first c.into_iter-item-iterator.result) ≡ c.args.lines.now = search rules in
    let second : iter_rest (zip_second c.into_iter-item-iterator.result) ≡ c.args.nanovolts.now = search rules in
    let same = ap (λ l. lines_text (volts_lines l c.args.nanovolts.now)) (sym first)
    ∙ ap (λ n. lines_text (volts_lines (iter_rest (zip_first c.into_iter-item-iterator.result)) n)) (sym second) in
    record { written = begins same }

pub loop-item-preserved : goal.loop-item-preserved
loop-item-preserved g c =
    let more = Zip-more c.loop-item.item-iterator c.next.new.self c.next.result (c.in-Some.item, c.in-Some.number) c.in-Some.is c.next.ensures.steps in
    let fits : FitsSigned w64 c.in-Some.number.now = search rules in
    let next = next_line _ _ _ _ c.in-Some.item.now c.in-Some.number.now more fits in
    record { written = goes_on c.loop-item.invariant.written next c.in_ok-write_volts_line.ensures }

pub returns-in_err-write_volts_line : goal.returns-in_err-write_volts_line
returns-in_err-write_volts_line g c =
    let more = Zip-more c.loop-item.item-iterator c.next.new.self c.next.result (c.in-Some.item, c.in-Some.number) c.in-Some.is c.next.ensures.steps in
    let fits : FitsSigned w64 c.in-Some.number.now = search rules in
    let next = next_line _ _ _ _ c.in-Some.item.now c.in-Some.number.now more fits in
    stops _ c.loop-item.invariant.written next c.in_err-write_volts_line.ensures c.from_residual.ensures.1

pub returns : goal.returns
returns g c =
    let none = either_empty_from_Zip c.loop-item.item-iterator c.next.new.self c.next.result c.in-None.is c.next.ensures.steps in
    ends c.loop-item.invariant.written (no_line_left _ _ none)
