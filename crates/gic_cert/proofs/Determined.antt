-- The text of a certificate determines it.
use Rattle.std.proofs.Common.{◌≡◌, ℕ, suc, ◌≤◌, Bool, true, List, [], ◌∷◌, length, map, Option, refl, ap, sym, subst, ◌∙◌, arith}
use Rattle.std.specs.Prelude.{Ok, Err}
use Rattle.std.specs.List.{AllByRecursion, zip}
use Rattle.std.specs.Option.{is_some}
use Rattle.gic_base.specs.Name.{is_name}
use Rattle.gic_base.specs.Refusals.{settle}
use Rattle.gic_report.specs.SharedLines.{Words}
use Rattle.gic_cert.specs.declared.limits.TheConstants.{MOST_WRITTEN_NODES}
use Rattle.gic_cert.specs.declared.refusal.CertRefusal.{CertRefusal}
use Rattle.gic_cert.specs.Written.{Written, Certificate, IsWritten}
use Rattle.gic_cert.specs.Text.{cert_text}
use Rattle.gic_cert.specs.Cuts.{lines_cut}
use Rattle.gic_cert.specs.Reading.{NamedNode, node_in, nodes_in, number_or_0, field_part_in, cert_in, cert_of}
use Rattle.gic_cert.proofs.TextBack.{reading_gives_back}

settled_value : {A : Type 0} (es : List CertRefusal) (x y : A) → settle es x ≡ Ok y → x ≡ y
settled_value [] x y e = cc
settled_value (f ∷ es) x y e = absurd (no_way e)
  where
    no_way : Err f ≡ Ok y → ⊥
    no_way h = cc

read_value : (nodes : List NamedNode) (bytes : List ℕ) (c : Certificate) → cert_of nodes bytes ≡ Ok c → cert_in nodes (lines_cut bytes) ≡ c
unfolding cert_of
read_value nodes bytes c e = settled_value _ (cert_in nodes (lines_cut bytes)) c e

-- names with as many flags
names_back : (names : List (List ℕ)) (lives : List Bool) → length lives ≡ length names → map (λ node. node.0) (zip names lives) ≡ names
names_back [] lives same = refl
names_back (name ∷ names) [] same = absurd (omega arith)
names_back (name ∷ names) (live ∷ lives) same = ap (λ ns. name ∷ ns) (names_back names lives (omega (arith, same)))

lives_back : (names : List (List ℕ)) (lives : List Bool) → length lives ≡ length names → lives ≡ map (λ node. node.1) (zip names lives)
lives_back [] [] same = refl
lives_back [] (live ∷ lives) same = absurd (omega arith)
lives_back (name ∷ names) [] same = absurd (omega arith)
lives_back (name ∷ names) (live ∷ lives) same = ap (λ ls. live ∷ ls) (lives_back names lives (omega (arith, same)))

all_names : (names : List (List ℕ)) (lives : List Bool) → AllByRecursion (λ name. is_name name ≡ true) names → AllByRecursion (λ node. is_name node.0 ≡ true) (zip names lives)
all_names [] lives h = tt
all_names (name ∷ names) [] h = tt
all_names (name ∷ names) (live ∷ lives) h = (h.0, all_names names lives h.1)

few_zipped : (names : List (List ℕ)) (lives : List Bool) → length (zip names lives) ≤ length names
few_zipped [] lives = omega arith
few_zipped (name ∷ names) [] = omega arith
few_zipped (name ∷ names) (live ∷ lives) = let fewer = few_zipped names lives in omega (arith, fewer)

count_some : (nodes : List (Option Written)) → length (map is_some nodes) ≡ length nodes
count_some [] = refl
count_some (w ∷ nodes) = ap suc (count_some nodes)

-- what the lines say doesn't depend on the flags
nodes_same : (names : List (List ℕ)) (xs ys : List Bool) (lines : List Words) → length xs ≡ length names → length ys ≡ length names → nodes_in (zip names xs) lines ≡ nodes_in (zip names ys) lines
nodes_same names xs ys [] h k = refl
nodes_same [] xs ys (line ∷ lines) h k = refl
nodes_same (name ∷ names) [] ys (line ∷ lines) h k = absurd (omega arith)
nodes_same (name ∷ names) (x ∷ xs) [] (line ∷ lines) h k = absurd (omega arith)
nodes_same (name ∷ names) (x ∷ xs) (y ∷ ys) (line ∷ lines) h k = ap (λ ns. node_in line ∷ ns) (nodes_same names xs ys lines (omega (arith, h)) (omega (arith, k)))

cert_same : (names : List (List ℕ)) (xs ys : List Bool) (lines : List Words) → length xs ≡ length names → length ys ≡ length names → cert_in (zip names xs) lines ≡ cert_in (zip names ys) lines
cert_same names xs ys [] h k = refl
cert_same names xs ys (first ∷ []) h k = refl
cert_same names xs ys (first ∷ second ∷ lines) h k =
    ap (λ (ns : List (Option Written)). record { north = number_or_0 (field_part_in second 3); east = number_or_0 (field_part_in second 5); nodes = ns }) (nodes_same names xs ys lines h k)

-- reading back over the names
read_back : (names : List (List ℕ)) (c : Certificate) → AllByRecursion (λ name. is_name name ≡ true) names → length names ≤ MOST_WRITTEN_NODES → IsWritten c → length c.nodes ≡ length names →
    cert_in (zip names (map is_some c.nodes)) (lines_cut (cert_text names c)) ≡ c
read_back names c all few written count =
    let lives = map is_some c.nodes in
    let same : length lives ≡ length names = count_some c.nodes ∙ count in
    let read = reading_gives_back (zip names lives) c (all_names names lives all) (omega (arith, few, few_zipped names lives)) written (lives_back names lives same) in
    read_value (zip names lives) (cert_text names c) c (subst (λ ns. cert_of (zip names lives) (cert_text ns c) ≡ Ok c) (names_back names lives same) read)

pub determined : (names : List (List ℕ)) (c d : Certificate) → AllByRecursion (λ name. is_name name ≡ true) names → length names ≤ MOST_WRITTEN_NODES →
    IsWritten c → IsWritten d → length c.nodes ≡ length names → length d.nodes ≡ length names → cert_text names c ≡ cert_text names d → c ≡ d
determined names c d all few wc wd cc_count d_count e =
    let xs = map is_some c.nodes in
    let ys = map is_some d.nodes in
    sym (read_back names c all few wc cc_count)
    ∙ ap (λ text. cert_in (zip names xs) (lines_cut text)) e
    ∙ cert_same names xs ys (lines_cut (cert_text names d)) (count_some c.nodes ∙ cc_count) (count_some d.nodes ∙ d_count)
    ∙ read_back names d all few wd d_count
