use Rattle.std.proofs.Common.{rules, ◌≡◌, ℕ, ◌<◌, ◌+◌, List, map, length, string_bytes, drop, get_or, cond, Bool, true, false, Some, sym, ap, ◌∙◌, drop-cons, add-one, suc, ◌∷◌}
use Rattle.std.specs.Cmp.Lexicographic.{slice_cmp, pointwise, texts_ties}
use Rattle.std.specs.Ordering.{nat_cmp}
use Rattle.std.specs.FinMap.{find}
use Rattle.std.proofs.Math.Dec.{eqb}
use Rattle.gic_files.proofs.memory_library.find_file.Goals as goal

-- one step along the list
step : {F : Type 0} (h : F → List ℕ × List ℕ) (name : List ℕ) (files : List F) (i : ℕ) (f : F) (b : Bool) → i < length files → f ≡ get_or files i f
    → b ≡ pointwise eqb name (h f).0
    → find (slice_cmp nat_cmp) name (map h (drop i files)) ≡ cond b (Some (h f).1) (find (slice_cmp nat_cmp) name (map h (drop (i + 1) files)))
step h name files i f b lt is test =
    ap (λ l. find (slice_cmp nat_cmp) name (map h l)) (drop-cons files i f lt ∙ ap (λ x. x ∷ drop (suc i) files) (sym is))
    ∙ ap (λ t. cond t (Some (h f).1) (find (slice_cmp nat_cmp) name (map h (drop (suc i) files)))) (sym (texts_ties name (h f).0) ∙ sym test)
    ∙ ap (λ k. cond b (Some (h f).1) (find (slice_cmp nat_cmp) name (map h (drop k files)))) (sym (add-one i))

pub returns-then-eq : goal.returns-then-eq
returns-then-eq c =
    sym (c.loop-file.invariant ∙ step (λ f. (string_bytes f.0, f.1.items)) c.args.name.now c.args.files.now c.loop-file.file-index c.file-item.result true (search rules) c.file-item.is
    (c.if-eq.ensures ∙ ap (pointwise eqb c.args.name.now) c.as_str.ensures.value))

pub loop-file-preserved : goal.loop-file-preserved
loop-file-preserved c =
    c.loop-file.invariant ∙ step (λ f. (string_bytes f.0, f.1.items)) c.args.name.now c.args.files.now c.loop-file.file-index c.file-item.result false (search rules) c.file-item.is
    (c.if-eq.ensures ∙ ap (pointwise eqb c.args.name.now) c.as_str.ensures.value)
