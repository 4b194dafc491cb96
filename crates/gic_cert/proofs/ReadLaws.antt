-- The nodes by their names, the refusals of lists that are joined, and that an accepted text has numbers at exactly the live nodes.
use Rattle.std.proofs.Common.{◌≡◌, ℕ, suc, List, [], ◌∷◌, ◌++◌, length, map, refl, ap, sym, subst, ◌∙◌, ◌+◌, Bool, true, false, not, if◌then◌else◌, None, Some}
use Rattle.std.specs.Prelude.{Result, Ok, Err, IsErrAnd, codes}
use Rattle.std.specs.Option.{is_some}
use Rattle.std.proofs.lemmas.Bool.{and_parts}
use Rattle.gic_base.proofs.RefusalLaws.{none_of_both}
use Rattle.gic_cert.specs.declared.refusal.CertRefusal.TheVariants as refusals
use Rattle.gic_cert.specs.Written.{Written}
use Rattle.gic_report.specs.SharedLines.{Words}
use Rattle.gic_base.specs.Refusals.{AnswersRead, settle, unless}
use Rattle.gic_base.specs.declared.read_fault.ReadFault.{ReadFault}
use Rattle.gic_base.specs.declared.read_fault.ReadFault.TheVariants.{Refused, Memory}
use Rattle.gic_cert.specs.declared.refusal.CertRefusal.{CertRefusal}
use Rattle.gic_cert.specs.declared.rows.NodeName.{NodeName}
use Rattle.gic_cert.specs.Reading.{NamedNode, IsFirstOf, TellsFirst, breaks_node, breaks_field, breaks_behind, certificate_refusals, node_in, nodes_in, cert_in, is_node_line, are_node_numbers, is_line_of, is_dead_line, is_only, has_word}
use Rattle.gic_cert.specs.Rows.{named_nodes}

pub count_named : (nodes : List NodeName) → length (named_nodes nodes) ≡ length nodes
count_named [] = refl
count_named (node ∷ nodes) = ap suc (count_named nodes)

pub first_of_prefix : (xs ys : List CertRefusal) (e : CertRefusal) → IsFirstOf xs e → IsFirstOf (xs ++ ys) e
first_of_prefix [] ys e h = absurd h
first_of_prefix (x ∷ xs) ys e h = h

pub first_of_back : (xs ys : List CertRefusal) (e : CertRefusal) → xs ≡ [] → IsFirstOf ys e → IsFirstOf (xs ++ ys) e
first_of_back xs ys e none h = rw none h

abbrev refusal_or : ReadFault CertRefusal → CertRefusal → CertRefusal
refusal_or (Refused refusal) other = refusal
refusal_or Memory other = other

-- the first refusal of these is told
pub tells : (all : List CertRefusal) (refusal : CertRefusal) → IsFirstOf all refusal → TellsFirst all (Refused refusal)
tells all refusal h other is = subst (IsFirstOf all) (ap (λ (f : ReadFault CertRefusal). refusal_or f refusal) is) h

-- for the functions that read
pub ruleset reading = (count_named, first_of_prefix, first_of_back)

pub settle_none : {A : Type 0} (xs : List CertRefusal) (x : A) → xs ≡ [] → settle xs x ≡ Ok x
settle_none xs x none = rw none refl

pub settle_first : {A : Type 0} (xs : List CertRefusal) (x : A) (e : CertRefusal) → IsFirstOf xs e → settle xs x ≡ Err e
settle_first [] x e h = absurd h
settle_first (y ∷ ys) x e h = ap Err (sym h)

pub ruleset settling = (settle_none, settle_first)

-- a reading that gives the first refusal of these, or wants memory, is answered so
pub read_refused : {A : Type 0} (all : List CertRefusal) (x : A) (fault : ReadFault CertRefusal) (answer : Result A (ReadFault CertRefusal)) → TellsFirst all fault
    → IsErrAnd answer (λ e. e ≡ fault) → AnswersRead (λ (y : A). y) answer (settle all x)
read_refused all x fault (Ok y) first is = absurd is
read_refused all x fault (Err other) first is = λ e same. settle_first all x e (first e (sym is ∙ same))

unless_kept : (fact : Bool) (e : CertRefusal) → unless fact e ≡ [] → fact ≡ true
unless_kept true e h = refl
unless_kept false e h = absurd (no_way h)
  where
    no_way : e ∷ [] ≡ [] → ⊥
    no_way f = cc

-- a line that keeps its rules has numbers where its node is live
live_by : (d live : Bool) → (if live then not d else d) ≡ true → not d ≡ live
live_by true true h = h
live_by true false h = refl
live_by false true h = refl
live_by false false h = absurd (no_way h)
  where
    no_way : false ≡ true → ⊥
    no_way e = cc

some_unless : (d : Bool) (w : Written) → is_some (if d then None else Some w) ≡ not d
some_unless true w = refl
some_unless false w = refl

line_live : (row : ℕ) (node : NamedNode) (words : Words) → breaks_node row node words ≡ [] → is_some (node_in words) ≡ node.1
line_live row node words h =
    let rest = (none_of_both (unless (is_node_line words) (refusals.Shape row)) (unless (are_node_numbers words) (refusals.Number row) ++ unless (is_line_of node words) (refusals.Node row)) h).1 in
    let last = (none_of_both (unless (are_node_numbers words) (refusals.Number row)) (unless (is_line_of node words) (refusals.Node row)) rest).1 in
    let kept : is_line_of node words ≡ true = unless_kept (is_line_of node words) (refusals.Node row) last in
    let parts = and_parts (has_word words 1 node.0) (if node.1 then not (is_dead_line words) else is_dead_line words) kept in
    some_unless (is_dead_line words) _ ∙ live_by (is_dead_line words) node.1 parts.1

lines_live : (row : ℕ) (nodes : List NamedNode) (lines : List Words) → breaks_behind row nodes lines ≡ [] → map is_some (nodes_in nodes lines) ≡ map (λ node. node.1) nodes
lines_live row nodes [] h = absurd (no_way h)
  where
    no_way : refusals.Shape row ∷ [] ≡ [] → ⊥
    no_way e = cc
lines_live row [] (line ∷ lines) h = refl
lines_live row (node ∷ nodes) (line ∷ lines) h =
    let both = none_of_both (breaks_node row node line) (breaks_behind (row + 1) nodes lines) h in
    let here = line_live row node line both.0 in
    let rest = lines_live (row + 1) nodes lines both.1 in
    cc

-- the numbers of an accepted text stand at exactly the live nodes
pub read_live : (nodes : List NamedNode) (lines : List Words) → certificate_refusals nodes lines ≡ [] → map is_some (cert_in nodes lines).nodes ≡ map (λ node. node.1) nodes
read_live nodes [] h = absurd (no_way h)
  where
    no_way : refusals.Shape 1 ∷ [] ≡ [] → ⊥
    no_way e = cc
read_live nodes (first ∷ []) h = absurd (no_way (none_of_both (unless (is_only (codes "certificate") first) (refusals.Shape 1)) (refusals.Shape 2 ∷ []) h).1)
  where
    no_way : refusals.Shape 2 ∷ [] ≡ [] → ⊥
    no_way e = cc
read_live nodes (first ∷ second ∷ lines) h =
    let behind = (none_of_both (unless (is_only (codes "certificate") first) (refusals.Shape 1)) (breaks_field (length nodes) second ++ breaks_behind 3 nodes lines) h).1 in
    lines_live 3 nodes lines (none_of_both (breaks_field (length nodes) second) (breaks_behind 3 nodes lines) behind).1

pub lives_named : (nodes : List NodeName) → map (λ node. node.1) (named_nodes nodes) ≡ map (λ node. node.live) nodes
lives_named [] = refl
lives_named (node ∷ nodes) = ap (λ l. node.live ∷ l) (lives_named nodes)
