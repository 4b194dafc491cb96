-- What the rules of a certificate's lines refuse: a line, and no node.
use Rattle.std.proofs.Common.{◌≡◌, ℕ, ◌+◌, Bool, true, false, List, [], ◌∷◌, ◌++◌, length, Result, Ok, Err, ap, subst, arith}
use Rattle.std.specs.Prelude.{codes}
use Rattle.std.specs.List.{AllByRecursion}
use Rattle.gic_base.specs.Refusals.{unless, settle}
use Rattle.gic_base.proofs.Each.{all_joined}
use Rattle.gic_report.specs.SharedLines.{Words}
use Rattle.gic_cert.specs.Cuts.{lines_cut}
use Rattle.gic_cert.specs.Reading.{NamedNode, is_only, is_field_line, are_field_numbers, breaks_field, is_node_line, are_node_numbers, is_line_of, breaks_node, breaks_after, breaks_behind, breaks_second, certificate_refusals, cert_in, cert_of}
use Rattle.gic_cert.specs.declared.refusal.CertRefusal.{CertRefusal}
use Rattle.gic_cert.specs.declared.refusal.CertRefusal.TheVariants as cert

-- the refusal tells a line
abbrev pub IsOfLine : CertRefusal → Type 0
IsOfLine (cert.Shape row) = Unit {0}
IsOfLine (cert.Number row) = Unit {0}
IsOfLine (cert.Node row) = Unit {0}
IsOfLine _ = ⊥

of_unless : (fact : Bool) (refusal : CertRefusal) → IsOfLine refusal → AllByRecursion IsOfLine (unless fact refusal)
of_unless true refusal h = tt
of_unless false refusal h = (h, tt)

of_node : (row : ℕ) (node : NamedNode) (words : Words) → AllByRecursion IsOfLine (breaks_node row node words)
of_node row node words =
    all_joined IsOfLine (unless (is_node_line words) (cert.Shape row)) (unless (are_node_numbers words) (cert.Number row) ++ unless (is_line_of node words) (cert.Node row))
    (of_unless (is_node_line words) (cert.Shape row) tt)
    (all_joined IsOfLine (unless (are_node_numbers words) (cert.Number row)) (unless (is_line_of node words) (cert.Node row))
    (of_unless (are_node_numbers words) (cert.Number row) tt) (of_unless (is_line_of node words) (cert.Node row) tt))

of_after : (row : ℕ) (lines : List Words) → AllByRecursion IsOfLine (breaks_after row lines)
of_after row [] = tt
of_after row (line ∷ lines) = (tt, tt)

of_behind : (row : ℕ) (nodes : List NamedNode) (lines : List Words) → AllByRecursion IsOfLine (breaks_behind row nodes lines)
of_behind row [] [] = (tt, tt)
of_behind row (node ∷ nodes) [] = (tt, tt)
of_behind row [] (line ∷ lines) =
    all_joined IsOfLine (unless (is_only (codes "end") line) (cert.Shape row)) (breaks_after (row + 1) lines) (of_unless (is_only (codes "end") line) (cert.Shape row) tt) (of_after (row + 1) lines)
of_behind row (node ∷ nodes) (line ∷ lines) = all_joined IsOfLine (breaks_node row node line) (breaks_behind (row + 1) nodes lines) (of_node row node line) (of_behind (row + 1) nodes lines)

of_second : (nodes : List NamedNode) (lines : List Words) → AllByRecursion IsOfLine (breaks_second nodes lines)
of_second nodes [] = (tt, tt)
of_second nodes (second ∷ lines) =
    all_joined IsOfLine (breaks_field (length nodes) second) (breaks_behind 3 nodes lines)
    (all_joined IsOfLine (unless (is_field_line second) (cert.Shape 2)) (unless (are_field_numbers (length nodes) second) (cert.Number 2))
    (of_unless (is_field_line second) (cert.Shape 2) tt) (of_unless (are_field_numbers (length nodes) second) (cert.Number 2) tt))
    (of_behind 3 nodes lines)

of_broken : (nodes : List NamedNode) (lines : List Words) → AllByRecursion IsOfLine (certificate_refusals nodes lines)
of_broken nodes [] = (tt, tt)
of_broken nodes (first ∷ lines) =
    all_joined IsOfLine (unless (is_only (codes "certificate") first) (cert.Shape 1)) (breaks_second nodes lines) (of_unless (is_only (codes "certificate") first) (cert.Shape 1) tt) (of_second nodes lines)

abbrev error_or : {A : Type 0} → Result A CertRefusal → CertRefusal → CertRefusal
error_or (Ok x) other = other
error_or (Err e) other = e

of_settled : {A : Type 0} (refusals : List CertRefusal) (x : A) (refusal : CertRefusal) → AllByRecursion IsOfLine refusals → settle refusals x ≡ Err refusal → IsOfLine refusal
of_settled [] x refusal all e = absurd (grind (arith, e))
of_settled (first ∷ others) x refusal all e = subst IsOfLine (ap (λ r. error_or r refusal) e) all.0

-- what a reading refuses is a line
pub of_line : (nodes : List NamedNode) (bytes : List ℕ) (refusal : CertRefusal) → cert_of nodes bytes ≡ Err refusal → IsOfLine refusal
unfolding cert_of
of_line nodes bytes refusal e = of_settled (certificate_refusals nodes (lines_cut bytes)) (cert_in nodes (lines_cut bytes)) refusal (of_broken nodes (lines_cut bytes)) e
