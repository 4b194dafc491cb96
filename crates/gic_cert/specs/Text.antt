-- The text of a certificate: its lines, each given by its words.
use Rattle.std.specs.Prelude.{ℕ, ℤ, List, [], ◌∷◌, ◌++◌, length, map, codes, decimal, Option, None, Some}
use Rattle.std.specs.Fmt.{signed_decimal}
use Rattle.std.specs.List.{zip}
use Rattle.gic_text.specs.Lines.{lines_text}
use Rattle.gic_report.specs.SharedLines.{Words, word_line, field_line}
use Rattle.gic_cert.specs.Written.{Written, Certificate}

-- the second line: the number of nodes, and the field
unfoldable pub nodes_line : ℕ → ℤ → ℤ → Words
nodes_line count north east = codes "nodes" ∷ decimal count ∷ field_line north east

-- the line of a node with this name
abbrev pub written_line : List ℕ → Option Written → Words
written_line name None = codes "cert" ∷ name ∷ codes "dead" ∷ []
written_line name (Some w) = codes "cert" ∷ name ∷ decimal w.entry ∷ signed_decimal w.guess ∷ decimal w.radius ∷ []

-- the lines of the nodes with these names, in order
abbrev pub written_lines : List (List ℕ) → List (Option Written) → List Words
written_lines names nodes = map (λ p. written_line p.0 p.1) (zip names nodes)

-- the lines behind the first two: those of the nodes, and the end
abbrev pub lines_behind : List (List ℕ) → List (Option Written) → List Words
lines_behind names nodes = written_lines names nodes ++ word_line (codes "end") ∷ []

-- all lines of a certificate over nodes with these names
abbrev pub cert_lines : List (List ℕ) → Certificate → List Words
cert_lines names c = word_line (codes "certificate") ∷ nodes_line (length c.nodes) c.north c.east ∷ lines_behind names c.nodes

-- and its text
abbrev pub cert_text : List (List ℕ) → Certificate → List ℕ
cert_text names c = lines_text (cert_lines names c)
