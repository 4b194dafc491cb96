use Rattle.std.proofs.Common.{rules, ◌≡◌, ◌∙◌, ap, ◌++◌, ◌∷◌, []}
use Rattle.std.specs.Prelude.{codes, decimal}
use Rattle.gic_text.specs.Lines.{BegunLine, with_word}
use Rattle.gic_report.proofs.Chained.{writes_as}
use Rattle.gic_series.proofs.text.write_setting.Goals as goal

-- numbers and the name are written as they are given, and with each word the line is that before with the word behind it
pub returns : goal.returns
returns g c =
    let width : c.number.new.self ≡ with_word c.word.new.self (decimal c.args.width) = search rules in
    let name : c.word-3.new.self ≡ with_word c.word-2.new.self c.args.name.now = search rules in
    let steps : c.number-2.new.self ≡ with_word c.word-4.new.self (decimal c.args.steps) = search rules in
    let one = c.word.ensures.value ∙ ap (λ (l : BegunLine). with_word l (codes "width")) c.start.ensures in
    let two = width ∙ ap (λ (l : BegunLine). with_word l (decimal c.args.width)) one in
    let three = c.word-2.ensures.value ∙ ap (λ (l : BegunLine). with_word l (codes "transformer")) two in
    let four = name ∙ ap (λ (l : BegunLine). with_word l c.args.name.now) three in
    let five = c.word-4.ensures.value ∙ ap (λ (l : BegunLine). with_word l (codes "steps")) four in
    let six = steps ∙ ap (λ (l : BegunLine). with_word l (decimal c.args.steps)) five in
    writes_as (c.finish.ensures ∙ ap (λ (l : BegunLine). l.bytes ++ 10 ∷ []) six) c.write_all.ensures
