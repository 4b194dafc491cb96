-- The lines of the nodes that are left.
use Rattle.std.proofs.Common.{◌≡◌, ℕ, ◌+◌, ◌<◌, List, ◌∷◌, ◌++◌, length, drop, None, ap, sym, ◌∙◌, drop-cons, add-one}
use Rattle.gic_text.specs.Lines.{line_text, lines_text}
use Rattle.gic_cert.specs.Written.{Certificate, written_at}
use Rattle.gic_cert.specs.Text.{written_line, written_lines}

-- the text of the lines that are left begins with that of the next node
pub next_node : (names others : List (List ℕ)) (name : List ℕ) (c : Certificate) (k : ℕ) → names ≡ name ∷ others → k < length c.nodes →
    lines_text (written_lines names (drop k c.nodes)) ≡ line_text (written_line name (written_at c k)) ++ lines_text (written_lines others (drop (k + 1) c.nodes))
next_node names others name c k more inside =
    ap (λ ns. lines_text (written_lines ns (drop k c.nodes))) more
    ∙ ap (λ ws. lines_text (written_lines (name ∷ others) ws)) (drop-cons c.nodes k None inside)
    ∙ ap (λ j. line_text (written_line name (written_at c k)) ++ lines_text (written_lines others (drop j c.nodes))) (sym (add-one k))
