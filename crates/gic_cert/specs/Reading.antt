-- The rules of a certificate's text, line by line: the refusals of a line in the order of its three rules, and those of all lines one after another. A text is accepted where no rule gives one, and the first of all answers otherwise.
use Rattle.std.specs.Prelude.{ℕ, ◌≡◌, ◌+◌, nat_le, ◌==◌, ◌&&◌, ◌||◌, Bool, not, List, [], ◌∷◌, ◌++◌, length, map, codes, Option, Some, None, is_some, unwrap_or, ℤ, pos, neg_ℤ, unsigned_abs, slice_index_or, if◌then◌else◌, Result}
use Rattle.std.specs.List.{list_all, enumerate_from}
use Rattle.std.specs.Str.{bytes_eq}
use Rattle.gic_base.specs.declared.limits.TheConstants.{MOST_FIELD, MOST_WALK}
use Rattle.gic_base.specs.Refusals.{unless, settle}
use Rattle.gic_text.specs.Decimal.{read_wide}
use Rattle.gic_case.specs.Lists.{Lists, node_names}
use Rattle.gic_model.specs.Standing.{is_live}
use Rattle.gic_model.specs.Sums.{Placed}
use Rattle.gic_report.specs.SharedLines.{Words}
use Rattle.gic_cert.specs.declared.limits.TheConstants.{MOST_WRITTEN_GUESS, MOST_WRITTEN_NODES, MOST_WRITTEN_RADIUS}
use Rattle.gic_base.specs.declared.read_fault.ReadFault.{ReadFault}
use Rattle.gic_base.specs.declared.read_fault.ReadFault.TheVariants.{Refused}
use Rattle.gic_cert.specs.declared.refusal.CertRefusal.{CertRefusal}
use Rattle.gic_cert.specs.declared.refusal.CertRefusal.TheVariants as refusals
use Rattle.gic_cert.specs.Written.{Written, Certificate}
use Rattle.gic_cert.specs.Cuts.{lines_cut}

-- a node of the network: its name, and whether it is live
abbrev pub NamedNode : Type 0
NamedNode = List ℕ × Bool

-- the nodes of a case in node order, with these elements standing
abbrev pub certificate_nodes : Lists → List Placed → List NamedNode
certificate_nodes case standing = map (λ p. (p.1, is_live standing p.0)) (enumerate_from 0 (node_names case))

-- a word of a line
abbrev pub word_at : Words → ℕ → List ℕ
word_at words place = slice_index_or words place []

-- whether the line is this word alone
abbrev pub is_only : List ℕ → Words → Bool
is_only word words = (length words == 1) && bytes_eq (word_at words 0) word

-- whether the word at this place is this one
abbrev pub has_word : Words → ℕ → List ℕ → Bool
has_word words place word = bytes_eq (word_at words place) word

-- whether no word is empty
abbrev pub none_empty : Words → Bool
none_empty words = list_all (λ word. nat_le 1 (length word)) words

-- the number that a word of the line writes, where it is one in this range
abbrev pub number_of_word : Words → ℕ → ℤ → ℤ → Option ℤ
number_of_word words place least most = read_wide (word_at words place) least most

-- the number of nodes, and the two parts of the field, in the second line
abbrev pub count_in : Words → Option ℤ
count_in words = number_of_word words 1 (pos 0) (pos MOST_WRITTEN_NODES)

abbrev pub field_part_in : Words → ℕ → Option ℤ
field_part_in words place = number_of_word words place (neg_ℤ (pos MOST_FIELD)) (pos MOST_FIELD)

-- the entry, the guess and the radius in the line of a live node
abbrev pub entry_in : Words → Option ℤ
entry_in words = number_of_word words 2 (pos 1) (pos MOST_WALK)

abbrev pub guess_in : Words → Option ℤ
guess_in words = number_of_word words 3 (neg_ℤ (pos MOST_WRITTEN_GUESS)) (pos MOST_WRITTEN_GUESS)

abbrev pub radius_in : Words → Option ℤ
radius_in words = number_of_word words 4 (pos 0) (pos MOST_WRITTEN_RADIUS)

-- a number, or 0 where there is none
abbrev pub number_or_0 : Option ℤ → ℤ
number_or_0 number = unwrap_or number (pos 0)

-- the second line: `nodes N north N east E`
abbrev pub is_field_line : Words → Bool
is_field_line words = ((length words == 6) && none_empty words) && (has_word words 0 (codes "nodes") && (has_word words 2 (codes "north") && has_word words 4 (codes "east")))

abbrev pub are_field_numbers : ℕ → Words → Bool
are_field_numbers count words =
    (is_some (count_in words) && (is_some (field_part_in words 3) && is_some (field_part_in words 5))) && (unsigned_abs (number_or_0 (count_in words)) == count)

abbrev pub breaks_field : ℕ → Words → List CertRefusal
breaks_field count words = unless (is_field_line words) (refusals.Shape 2) ++ unless (are_field_numbers count words) (refusals.Number 2)

-- the line of a node: `cert NAME dead`, or `cert NAME V X RADIUS`
abbrev pub is_dead_line : Words → Bool
is_dead_line words = (length words == 3) && has_word words 2 (codes "dead")

abbrev pub is_node_line : Words → Bool
is_node_line words = (none_empty words && has_word words 0 (codes "cert")) && (is_dead_line words || (length words == 5))

abbrev pub are_node_numbers : Words → Bool
are_node_numbers words = is_dead_line words || (is_some (entry_in words) && (is_some (guess_in words) && is_some (radius_in words)))

abbrev pub is_line_of : NamedNode → Words → Bool
is_line_of node words = has_word words 1 node.0 && (if node.1 then not (is_dead_line words) else is_dead_line words)

abbrev pub breaks_node : (row : ℕ) → NamedNode → Words → List CertRefusal
breaks_node row node words =
    unless (is_node_line words) (refusals.Shape row) ++ (unless (are_node_numbers words) (refusals.Number row) ++ unless (is_line_of node words) (refusals.Node row))

-- nothing follows the end
abbrev pub breaks_after : (row : ℕ) → List Words → List CertRefusal
breaks_after row [] = []
breaks_after row (line ∷ lines) = refusals.Shape row ∷ []

-- a line for each node, the end, and nothing more, from this row on
abbrev pub breaks_behind : (row : ℕ) → List NamedNode → List Words → List CertRefusal
breaks_behind row nodes [] = refusals.Shape row ∷ []
breaks_behind row [] (line ∷ lines) = unless (is_only (codes "end") line) (refusals.Shape row) ++ breaks_after (row + 1) lines
breaks_behind row (node ∷ nodes) (line ∷ lines) = breaks_node row node line ++ breaks_behind (row + 1) nodes lines

-- the rules of the lines behind the first, over the nodes of the network
abbrev pub breaks_second : List NamedNode → List Words → List CertRefusal
breaks_second nodes [] = refusals.Shape 2 ∷ []
breaks_second nodes (second ∷ lines) = breaks_field (length nodes) second ++ breaks_behind 3 nodes lines

-- all rules
abbrev pub certificate_refusals : List NamedNode → List Words → List CertRefusal
certificate_refusals nodes [] = refusals.Shape 1 ∷ []
certificate_refusals nodes (first ∷ lines) = unless (is_only (codes "certificate") first) (refusals.Shape 1) ++ breaks_second nodes lines

-- what the line of a node says, a number that breaks its rule taken as 0
abbrev pub node_in : Words → Option Written
node_in words = if is_dead_line words then None else Some (record {
  entry = unsigned_abs (number_or_0 (entry_in words));
  guess = number_or_0 (guess_in words);
  radius = unsigned_abs (number_or_0 (radius_in words));
})

abbrev pub nodes_in : List NamedNode → List Words → List (Option Written)
nodes_in nodes [] = []
nodes_in [] (line ∷ lines) = []
nodes_in (node ∷ nodes) (line ∷ lines) = node_in line ∷ nodes_in nodes lines

-- what a text without its lines is taken as
abbrev pub no_cert : Certificate
no_cert = record { north = pos 0; east = pos 0; nodes = [] }

-- what the lines behind the first say
abbrev pub cert_behind : List NamedNode → List Words → Certificate
cert_behind nodes [] = no_cert
cert_behind nodes (second ∷ lines) = record {
  north = number_or_0 (field_part_in second 3);
  east = number_or_0 (field_part_in second 5);
  nodes = nodes_in nodes lines;
}

-- what all lines say
abbrev pub cert_in : List NamedNode → List Words → Certificate
cert_in nodes [] = no_cert
cert_in nodes (first ∷ lines) = cert_behind nodes lines

-- the certificate that the bytes are over these nodes, or the first rule that they break
unfoldable pub cert_of : List NamedNode → List ℕ → Result Certificate CertRefusal
cert_of nodes bytes = settle (certificate_refusals nodes (lines_cut bytes)) (cert_in nodes (lines_cut bytes))

-- the first of these refusals
abbrev pub IsFirstOf : List CertRefusal → CertRefusal → Type 0
IsFirstOf [] refusal = ⊥
IsFirstOf (first ∷ others) refusal = refusal ≡ first

-- a refusal, where there is one and memory doesn't run out, is the first of these
abbrev pub TellsFirst : List CertRefusal → ReadFault CertRefusal → Type 0
TellsFirst all fault = (refusal : CertRefusal) → fault ≡ Refused refusal → IsFirstOf all refusal
